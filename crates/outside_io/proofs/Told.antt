-- The names of a world in memory.
use Rattle.std.proofs.Common.{◌≡◌, ℕ, ◌+◌, ◌<◌, true, false, cond, List, [], ◌∷◌, Some, None, option_map, length, drop, get_or, refl, sym, ap, ◌∙◌, add-one, drop-cons, suc}
use Rattle.std.specs.Prelude.{string_bytes, bytes_eq}
use Rattle.outside_io.specs.declared.memory.source.MemSource.{MemSource}
use Rattle.outside_io.specs.declared.memory.world.MemFile.{MemFile}
use Rattle.outside_io.specs.Memory.{told, source_of, IsFresh}
use Rattle.outside_io.specs.Names.{bytes_of, Lacks, Opens}

-- the list from a place on begins with what stands there
pub rest-begins : (files : List MemFile) (i : ℕ) (file : MemFile) → i < length files → file ≡ get_or files i file
    → drop i files ≡ file ∷ drop (i + 1) files
rest-begins files i file within here =
    drop-cons files i file within ∙ ap (λ head. head ∷ drop (suc i) files) (sym here) ∙ ap (λ k. file ∷ drop k files) (sym (add-one i))

-- the first of the rest has the name
pub source-here : (name : List ℕ) (file : MemFile) (rest : List MemFile)
    → bytes_eq name (string_bytes file.name) ≡ true → source_of name (file ∷ rest) ≡ Some file.source
source-here name file rest same = ap (λ b. cond b (Some file.source) (source_of name rest)) same

-- the first of the rest has another name
pub source-past : (name : List ℕ) (file : MemFile) (rest : List MemFile)
    → bytes_eq name (string_bytes file.name) ≡ false → source_of name (file ∷ rest) ≡ source_of name rest
source-past name file rest other = ap (λ b. cond b (Some file.source) (source_of name rest)) other

-- the bytes under a name are those of its source
pub bytes-told : (name : List ℕ) (files : List MemFile)
    → bytes_of name (told files) ≡ option_map (λ source. source.bytes.items) (source_of name files)
bytes-told name [] = refl
bytes-told name (file ∷ rest) =
    elim (bytes_eq name (string_bytes file.name)) as (λ b. cond b (Some file.source.bytes.items) (bytes_of name (told rest)) ≡ option_map (λ source. source.bytes.items) (cond b (Some file.source) (source_of name rest)))
    [ true ↦ refl | false ↦ bytes-told name rest ]

-- no source, no bytes
pub lacks-bytes : (name : List ℕ) (files : List MemFile) → source_of name files ≡ None → bytes_of name (told files) ≡ None
lacks-bytes name files none = bytes-told name files ∙ ap (option_map (λ source. source.bytes.items)) none

-- a name with a source isn't lacking
pub has-bytes : (name : List ℕ) (files : List MemFile) (source : MemSource) → source_of name files ≡ Some source
    → Lacks (Some (told files)) name → ⊥
has-bytes name files source found lacks = cc (bytes-told name files ∙ ap (option_map (λ s. s.bytes.items)) found, lacks.1, lacks.2)

-- a copy of the source under the name has the name's bytes left
pub opens-copy : (name : List ℕ) (files : List MemFile) (source copy : MemSource) → source_of name files ≡ Some source
    → IsFresh source copy → Opens (Some (told files)) name (Some (drop copy.at copy.bytes.items))
opens-copy name files source copy found fresh = (
  source.bytes.items,
  bytes-told name files ∙ ap (option_map (λ s. s.bytes.items)) found,
  ap Some (ap (λ at. drop at copy.bytes.items) fresh.at ∙ fresh.bytes),
)
