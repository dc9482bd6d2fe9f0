-- A world in memory: what it tells, and what opening one of its names gives (this project's profile).
use Rattle.std.specs.Prelude.{◌≡◌, ℕ, List, Option, map, string_bytes, bytes_eq}
use Rattle.std.specs.Map.{lookup}
use Rattle.outside_io.specs.declared.memory.source.MemSource.{MemSource}
use Rattle.outside_io.specs.declared.memory.world.MemFile.{MemFile}

-- the names with their bytes
abbrev pub told : List MemFile → List (List ℕ × List ℕ)
told files = map (λ file. (string_bytes file.name, file.source.bytes.items)) files

-- the source under a name: of two equal names the first counts
abbrev pub source_of : List ℕ → List MemFile → Option MemSource
source_of name files = lookup (bytes_eq name) (map (λ file. (string_bytes file.name, file.source)) files)

-- a copy of a source as it is at first
pub record IsFresh (source copy : MemSource) : Type 0 where
  pub bytes : copy.bytes.items ≡ source.bytes.items
  pub cuts : copy.cuts.items ≡ source.cuts.items
  pub fail : copy.fail.items ≡ source.fail.items
  pub at : copy.at ≡ 0
  pub calls : copy.calls ≡ 0
  pub faults : copy.faults ≡ 0
