-- A body's records and its refusal, where reading stops, and where it goes on.
use Rattle.std.proofs.Common.{◌≡◌, ◌≢◌, ◌==◌, true, false, ℕ, zero, suc, ◌+◌, ◌-◌, ◌<◌, ◌≤◌, List, [], ◌∷◌, ◌++◌, length, drop, Result, Ok, Err, OnErr, None, Some, refl, ap, sym, eqb-true, ◌∙◌, arith, append_assoc, length-drop}
use Rattle.std.proofs.lemmas.List.{append-nil}
use Rattle.std.specs.List.{All}
use Rattle.std.proofs.lemmas.List.Elements.{All-append, All-from_recursion}
use Rattle.asterix_fields.specs.declared.fault.ItemFault.{ItemFault}
use Rattle.asterix_fields.specs.Reading.{AllReadAsSpelled}
use Rattle.cat062_read.specs.declared.record.Raw062.{Raw062}
use Rattle.cat062_read.specs.Records.{reading, records, left_of, refused_at, refusal, refused_from}
use Rattle.cat062_read.specs.Tracks.{IsPlaced}
use Rattle.cat062_read.proofs.Readings.{what_is_read, read_end, read_more, nothing_read, fault_read, size_some}

refused_some : (rest : List ℕ) (size offset : ℕ) (f : ItemFault) → 0 < length rest → reading rest ≡ Err f
    → refused_from offset (refused_at size rest) ≡ Some (record { offset = offset + (size - length rest); fault = f })
refused_some [] size offset f some e = absurd (omega arith)
refused_some (octet ∷ more) size offset f some e = rw (fault_read (octet ∷ more) f e) refl

pub stops_refused : (law : AllReadAsSpelled) (body rest : List ℕ) (done : List Raw062) (offset : ℕ) (f : ItemFault) → done ++ records rest ≡ records body → left_of rest ≡ left_of body
    → 0 < length rest → reading rest ≡ Err f
    → (done ≡ records body) × (Some (record { offset = offset + (length body - length rest); fault = f }) ≡ refused_from offset (refusal body))
unfolding refusal
stops_refused law body rest done offset f same_records same some e =
    let end = read_end law rest f e in
    let left : left_of body ≡ rest = sym same ∙ end.1 in (
      sym (append-nil done) ∙ ap (λ (later : List Raw062). done ++ later) (sym end.0) ∙ same_records,
      sym (ap (λ (l : List ℕ). refused_from offset (refused_at (length body) l)) left ∙ refused_some rest (length body) offset f some e),
    )

empty_read : (rest : List ℕ) → length rest ≡ 0 → (records rest ≡ []) × (left_of rest ≡ [])
empty_read [] h = nothing_read
empty_read (octet ∷ more) h = absurd (omega arith)

pub stops_whole : (body rest : List ℕ) (done : List Raw062) (offset : ℕ) → done ++ records rest ≡ records body → left_of rest ≡ left_of body → length rest ≡ 0
    → (done ≡ records body) × (None ≡ refused_from offset (refusal body))
unfolding refusal
stops_whole body rest done offset same_records same none =
    let end = empty_read rest none in
    let left : left_of body ≡ [] = sym same ∙ end.1 in (
      sym (append-nil done) ∙ ap (λ (later : List Raw062). done ++ later) (sym end.0) ∙ same_records,
      sym (ap (λ (l : List ℕ). refused_from offset (refused_at (length body) l)) left),
    )

pub record GoesOn (body rest : List ℕ) (done : List Raw062) (raw : Raw062) (size : ℕ) : Type 0 where
  pub same_records : (done ++ raw ∷ []) ++ records (drop size rest) ≡ records body
  pub same_left : left_of (drop size rest) ≡ left_of body
  pub fewer : length (drop size rest) < length rest

pub goes_on : (law : AllReadAsSpelled) (body rest : List ℕ) (done : List Raw062) (raw : Raw062) (size : ℕ) → done ++ records rest ≡ records body → left_of rest ≡ left_of body
    → 0 < length rest → reading rest ≡ Ok (raw, size) → GoesOn body rest done raw size
goes_on law body rest done raw size same_records same some e =
    let more = read_more law rest (raw, size) e in
    let one : 1 ≤ size = size_some law rest (raw, size) e in
    let left : length (drop size rest) ≡ length rest - size = length-drop size rest in
    record {
      same_records = append_assoc done (raw ∷ []) (records (drop size rest)) ∙ ap (λ (later : List Raw062). done ++ later) (sym more.0) ∙ same_records;
      same_left = sym more.1 ∙ same;
      fewer = omega arith;
    }

-- octets of which a record is read have records
pub read_some : (law : AllReadAsSpelled) (rest : List ℕ) (raw : Raw062) (size : ℕ) → reading rest ≡ Ok (raw, size) → records rest ≢ []
read_some law rest raw size e = λ none. absurd (omega (arith, ap length (sym (read_more law rest (raw, size) e).0 ∙ none)))

-- a record that is read ends within the octets
pub read_within : (law : AllReadAsSpelled) (rest : List ℕ) (raw : Raw062) (size : ℕ) → reading rest ≡ Ok (raw, size) → size ≤ length rest
read_within law rest raw size e = (what_is_read law rest (raw, size) e).inside

-- what holds whatever was answered
pub on_err : {X E P : Type 0} (r : Result X E) → P → OnErr r P
on_err (Ok x) h = tt
on_err (Err e) h = h

pub some_left : (n : ℕ) → false ≡ (n == 0) → 0 < n
some_left zero h = absurd (cc)
some_left (suc n) h = omega arith

pub nothing_left : (n : ℕ) → true ≡ (n == 0) → n ≡ 0
nothing_left n h = eqb-true n 0 (sym h)

pub placed_more : (done : List Raw062) (raw : Raw062) → All IsPlaced done → IsPlaced raw → All IsPlaced (done ++ raw ∷ [])
placed_more done raw all one = All-append IsPlaced done (raw ∷ []) all (All-from_recursion IsPlaced (raw ∷ []) (one, tt))
