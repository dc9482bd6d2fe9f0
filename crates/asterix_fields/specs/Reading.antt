-- Records are read as they are spelled: what the computing definition finds is what the grammar spells, and what it refuses is the first fault.
use Rattle.std.specs.Prelude.{◌≡◌, ◌↔◌, ℕ, ◌++◌, List, length, Some, Result, Ok, Err, IsOkAnd}
use Rattle.asterix_fields.specs.declared.tables.Form.{Form}
use Rattle.asterix_fields.specs.declared.places.Span.{Span}
use Rattle.asterix_fields.specs.declared.places.Walk.{Walk}
use Rattle.asterix_fields.specs.declared.fault.ItemFault.{ItemFault}
use Rattle.asterix_fields.specs.Tables.{WellFormed}
use Rattle.asterix_fields.specs.Spelling.{Spells, texts_at, IsWalk}
use Rattle.asterix_fields.specs.Faults.{record_at, fault}
use Rattle.asterix_fields.specs.FirstFault.{IsFirstFault}

-- the places and the length that a walk found, or the fault
abbrev pub found_of : {N : ℕ} → Result (Walk N) ItemFault → Result (List Span × ℕ) ItemFault
found_of (Ok walk) = Ok (walk.spans, walk.length)
found_of (Err fault) = Err fault

-- the same of places that stand beside the length
abbrev pub found_in : List Span → Result ℕ ItemFault → Result (List Span × ℕ) ItemFault
found_in spans (Ok length) = Ok (spans, length)
found_in spans (Err fault) = Err fault

-- whatever record the octets begin with, it is found: as many octets, and places at which its items stand
abbrev pub FindsSpelled : List Form → List Form → List ℕ → Result (List Span × ℕ) ItemFault → Type 0
FindsSpelled uap subs bytes found = (text rest : List ℕ) (items : List (List ℕ)) → Spells uap subs text items → bytes ≡ text ++ rest
    → IsOkAnd found (λ walk. (walk.1 ≡ length text) × (texts_at bytes walk.0 ≡ items))

-- there is one first fault where octets begin no record, and none where they begin one
abbrev pub HasOneFault : List Form → List Form → Type 0
HasOneFault uap subs = (bytes : List ℕ) (found : ItemFault) → (fault uap subs bytes ≡ Some found) ↔ IsFirstFault uap subs bytes found

-- What is found at the front is spelled there; what is spelled is found, whatever follows it; what is refused is the first fault.
pub record IsReadAsSpelled (uap subs : List Form) : Type 0 where
  pub found : (bytes : List ℕ) (read : List Span × ℕ) → record_at uap subs bytes ≡ Ok read → IsWalk uap subs bytes read.0 read.1
  pub again : (text rest : List ℕ) (items : List (List ℕ)) → Spells uap subs text items
      → (spans : List Span) × (record_at uap subs (text ++ rest) ≡ Ok (spans, length text)) × (texts_at (text ++ rest) spans ≡ items)
  pub refused : (bytes : List ℕ) (fault : ItemFault) → record_at uap subs bytes ≡ Err fault → IsFirstFault uap subs bytes fault

-- by all tables that are well formed
abbrev pub AllReadAsSpelled : Type 0
AllReadAsSpelled = (uap subs : List Form) → WellFormed uap subs → IsReadAsSpelled uap subs
