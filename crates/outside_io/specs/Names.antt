-- A world's names with their bytes, where it tells them, and what opening one of them gives (this project's profile).
use Rattle.std.specs.Prelude.{◌≡◌, ℕ, List, Option, Some, None, ⊤}
use Rattle.std.specs.Str.{bytes_eq}
use Rattle.std.specs.Map.{lookup}

-- the bytes under a name: of two equal names the first counts
abbrev pub bytes_of : List ℕ → List (List ℕ × List ℕ) → Option (List ℕ)
bytes_of name files = lookup (bytes_eq name) files

-- what was opened has the name's bytes left, where the world tells its names
abbrev pub Opens : Option (List (List ℕ × List ℕ)) → List ℕ → Option (List ℕ) → Type 0
Opens None name left = ⊤
Opens (Some files) name left = (bytes : List ℕ) × (bytes_of name files ≡ Some bytes) × (left ≡ Some bytes)

-- the world tells its names, and this isn't one
abbrev pub Lacks : Option (List (List ℕ × List ℕ)) → List ℕ → Type 0
Lacks told name = (files : List (List ℕ × List ℕ)) × (told ≡ Some files) × (bytes_of name files ≡ None)
