-- Rows that no octet names are passed over.
use Rattle.std.proofs.Common.{◌≡◌, ℕ, zero, suc, ◌+◌, ◌-◌, ◌<◌, ◌≤◌, inl, inr, true, false, List, length, get_or, drop, Ok, Err, None, Some, refl, ap, sym, ◌∙◌, arith}
use Rattle.std.proofs.lemmas.Bool.{cases_lt}
use Rattle.asterix_fields.specs.declared.tables.Form.{Form}
use Rattle.asterix_fields.specs.declared.tables.Form.TheVariants.{Spare}
use Rattle.asterix_fields.specs.declared.fault.ItemFault.{ItemFault}
use Rattle.asterix_fields.specs.Spelling.{is_named}
use Rattle.asterix_fields.specs.Faults.{first_named, simple_at, named_at}
use Rattle.asterix_fields.proofs.PresenceLaws.{named_past, first_named_none}
use Rattle.asterix_fields.proofs.FaultLaws.{first_named_some}
use Rattle.asterix_fields.proofs.Steps.{subfields_from, subfields_stop, subfields_next, subfields_done}

-- a row that isn't named
over_one : (frn : ℕ) (presence : List ℕ) (rows : List Form) (index at : ℕ) (bytes : List ℕ) → is_named presence (index + 1) ≡ false
    → subfields_from frn presence rows index at bytes ≡ subfields_from frn presence rows (index + 1) at bytes
over_one frn presence rows index at bytes absent =
    elim (cases_lt index (length rows)) [
      | inl within ↦
          let none : named_at (λ number. simple_at frn) presence (index + 1) (get_or rows index Spare) bytes ≡ Ok 0 = rw absent refl in
          subfields_next frn presence rows index at bytes 0 within none ∙ ap (λ (n : ℕ). subfields_from frn presence rows (index + 1) n bytes) (omega arith)
      | inr past ↦ subfields_done frn presence rows index at bytes past ∙ sym (subfields_done frn presence rows (index + 1) at bytes (omega arith))
    ]

over : (frn : ℕ) (presence : List ℕ) (rows : List Form) (index gap at : ℕ) (bytes : List ℕ) → ((i : ℕ) → index < i → i ≤ index + gap → is_named presence i ≡ false)
    → subfields_from frn presence rows index at bytes ≡ subfields_from frn presence rows (index + gap) at bytes
over frn presence rows index zero at bytes absent = ap (λ (i : ℕ). subfields_from frn presence rows i at bytes) (omega arith)
over frn presence rows index (suc gap) at bytes absent =
    over_one frn presence rows index at bytes (absent (index + 1) (omega arith) (omega arith))
    ∙ over frn presence rows (index + 1) gap at bytes (λ i low high. absent i (omega arith) (omega arith))
    ∙ ap (λ (i : ℕ). subfields_from frn presence rows i at bytes) (omega arith)

-- on to the next row that is named
pub subfields_skip : (frn : ℕ) (presence : List ℕ) (rows : List Form) (done number at : ℕ) (bytes : List ℕ) → first_named presence (35 - done) (done + 1) ≡ Some number
    → subfields_from frn presence rows done at bytes ≡ subfields_from frn presence rows (number - 1) at bytes
subfields_skip frn presence rows done number at bytes e =
    let f = first_named_some presence (35 - done) (done + 1) number e in
    let low = f.0 in
    over frn presence rows done (number - 1 - done) at bytes (λ i above below. f.3 i (omega arith) (omega arith))
    ∙ ap (λ (i : ℕ). subfields_from frn presence rows i at bytes) (omega arith)

-- a row that is named
pub subfields_named : (frn : ℕ) (presence : List ℕ) (rows : List Form) (done number at size : ℕ) (bytes : List ℕ) → first_named presence (35 - done) (done + 1) ≡ Some number
    → number - 1 < length rows → simple_at frn (get_or rows (number - 1) Spare) bytes ≡ Ok size
    → subfields_from frn presence rows done at bytes ≡ subfields_from frn presence rows number (at + size) (drop size bytes)
subfields_named frn presence rows done number at size bytes e within found =
    let f = first_named_some presence (35 - done) (done + 1) number e in
    let low = f.0 in
    let place : number - 1 + 1 ≡ number = omega arith in
    let here : is_named presence (number - 1 + 1) ≡ true = ap (is_named presence) place ∙ f.2 in
    let read : named_at (λ n. simple_at frn) presence (number - 1 + 1) (get_or rows (number - 1) Spare) bytes ≡ Ok size = rw here found in
    subfields_skip frn presence rows done number at bytes e
    ∙ subfields_next frn presence rows (number - 1) at bytes size within read
    ∙ ap (λ (i : ℕ). subfields_from frn presence rows i (at + size) (drop size bytes)) place

pub subfields_fail : (frn : ℕ) (presence : List ℕ) (rows : List Form) (done number at : ℕ) (bytes : List ℕ) (fault : ItemFault) → first_named presence (35 - done) (done + 1) ≡ Some number
    → number - 1 < length rows → simple_at frn (get_or rows (number - 1) Spare) bytes ≡ Err fault
    → subfields_from frn presence rows done at bytes ≡ Err fault
subfields_fail frn presence rows done number at bytes fault e within found =
    let f = first_named_some presence (35 - done) (done + 1) number e in
    let low = f.0 in
    let place : number - 1 + 1 ≡ number = omega arith in
    let here : is_named presence (number - 1 + 1) ≡ true = ap (is_named presence) place ∙ f.2 in
    let read : named_at (λ n. simple_at frn) presence (number - 1 + 1) (get_or rows (number - 1) Spare) bytes ≡ Err fault = rw here found in
    subfields_skip frn presence rows done number at bytes e ∙ subfields_stop frn presence rows (number - 1) at bytes fault within read

-- what is named stands past the rows
pub subfields_beyond : (frn : ℕ) (presence : List ℕ) (rows : List Form) (done number at : ℕ) (bytes : List ℕ) → first_named presence (35 - done) (done + 1) ≡ Some number
    → length rows ≤ number - 1 → subfields_from frn presence rows done at bytes ≡ Ok at
subfields_beyond frn presence rows done number at bytes e past =
    subfields_skip frn presence rows done number at bytes e ∙ subfields_done frn presence rows (number - 1) at bytes past

-- no further row is named
pub subfields_last : (frn : ℕ) (presence : List ℕ) (rows : List Form) (done at : ℕ) (bytes : List ℕ) → length presence ≤ 5 → first_named presence (35 - done) (done + 1) ≡ None
    → subfields_from frn presence rows done at bytes ≡ Ok at
subfields_last frn presence rows done at bytes few e =
    let absent : (i : ℕ) → done < i → i ≤ done + (length rows - done) → is_named presence i ≡ false = λ i above below.
    elim (cases_lt 35 i) [
      | inl past ↦ named_past presence i (omega arith)
      | inr within ↦ first_named_none presence (35 - done) (done + 1) e i (omega arith) (omega arith)
    ] in
    over frn presence rows done (length rows - done) at bytes absent
    ∙ subfields_done frn presence rows (done + (length rows - done)) at bytes (omega arith)
