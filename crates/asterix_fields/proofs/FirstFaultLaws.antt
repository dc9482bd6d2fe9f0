-- Where a row fails, a compound item fails, or a record does: what the reader answers there is the first fault.
use Rattle.std.proofs.Common.{◌≡◌, ℕ, zero, suc, ◌+◌, ◌-◌, ◌<◌, inl, inr, Bool, true, false, cond, IsTrue, List, [], ◌∷◌, ◌++◌, length, get_or, take, drop, Ok, Err, Option, None, Some, refl, ap, sym, ◌∙◌, subst, arith, length-append, append_assoc}
use Rattle.std.specs.List.{AllByRecursion, list_all}
use Rattle.std.specs.Prelude.{replicate, nat_le}
use Rattle.std.proofs.lemmas.Bool.{cases_lt, and_parts}
use Rattle.std.proofs.lemmas.List.{length-replicate, take-append-drop, get_or_past, get_or_append_left, get_or-append_right, get_or-replicate}
use Rattle.asterix_fields.specs.declared.tables.Form.{Form}
use Rattle.asterix_fields.specs.declared.tables.Form.TheVariants.{Spare, Fixed, Extended, Explicit, Repeat, Compound}
use Rattle.asterix_fields.specs.declared.places.Span.{Span}
use Rattle.asterix_fields.specs.declared.fault.ItemFault.{ItemFault}
use Rattle.asterix_fields.specs.declared.fault.ItemFault.TheVariants.{SpareItem}
use Rattle.asterix_fields.specs.Tables.{is_row, rows_of, WellFormed}
use Rattle.asterix_fields.specs.Spelling.{joined, is_named, IsPresence, IsSimple, Stands, Item}
use Rattle.asterix_fields.specs.Faults.{◌>>=◌, first_named, simple_at, primary_at, fspec_at, named_at, spans_at, end_of, compound_at, item_at, no_more, record_at, fault_of, fault}
use Rattle.asterix_fields.specs.FirstFault.{SimpleFails, RowFails, CompoundFails, ItemFails, IsFirstFault}
use Rattle.asterix_fields.proofs.PresenceLaws.{Read, primary_takes, fspec_takes}
use Rattle.asterix_fields.proofs.RowLaws.{Reads, stands_takes, AreTexts-length, AreTexts-each, spans_take}
use Rattle.asterix_fields.proofs.RecordLaws.{all_of, sized_row, row_reads, IsGood, item_reads, good_uap}
use Rattle.asterix_fields.proofs.FaultLaws.{err_is, not_err, bind_err, fspec_breaks, first_named_some, primary_breaks, simple_breaks}

-- ---- rows

-- the rows before stand, and the next one, which is named, is not read
record Broken (item_at : ℕ → Form → List ℕ → Read ℕ) (IsItem : Form → List ℕ → Type 0) (presence : List ℕ) (number : ℕ) (forms : List Form) (bytes : List ℕ) (fault : ItemFault) : Type 0 where
  before : List (List ℕ)
  each : (k : ℕ) → k < length before → Stands IsItem (is_named presence (k + number)) (get_or forms k Spare) (get_or before k [])
  inside : length before < length forms
  named : is_named presence (length before + number) ≡ true
  rest : List ℕ
  whole : bytes ≡ joined before ++ rest
  fails : item_at (length before + number) (get_or forms (length before) Spare) rest ≡ Err fault

named_err : (named : Bool) (read : Read ℕ) (fault : ItemFault) → cond named read (Ok 0) ≡ Err fault → (named ≡ true) × (read ≡ Err fault)
named_err true read fault e = (refl, e)
named_err false read fault e = not_err 0 fault e

each_more : (IsItem : Form → List ℕ → Type 0) (presence : List ℕ) (number : ℕ) (form : Form) (forms : List Form) (text : List ℕ) (texts : List (List ℕ)) → Stands IsItem (is_named presence number) form text
    → ((k : ℕ) → k < length texts → Stands IsItem (is_named presence (k + (number + 1))) (get_or forms k Spare) (get_or texts k []))
    → (k : ℕ) → k < length (text ∷ texts) → Stands IsItem (is_named presence (k + number)) (get_or (form ∷ forms) k Spare) (get_or (text ∷ texts) k [])
each_more IsItem presence number form forms text texts here each zero h =
    subst (λ (m : ℕ). Stands IsItem (is_named presence m) form text) (omega arith) here
each_more IsItem presence number form forms text texts here each (suc k) h =
    let place : k + (number + 1) ≡ suc k + number = omega arith in
    subst (λ (m : ℕ). Stands IsItem (is_named presence m) (get_or forms k Spare) (get_or texts k [])) place (each k (omega arith))

pub all_at : (P : Form → Type 0) (forms : List Form) (k : ℕ) → AllByRecursion P forms → k < length forms → P (get_or forms k Spare)
all_at P [] k all h = absurd (omega arith)
all_at P (form ∷ forms) zero all h = all.0
all_at P (form ∷ forms) (suc k) all h = all_at P forms k all.1 (omega arith)

spans_break : (item_at : ℕ → Form → List ℕ → Read ℕ) (IsItem : Form → List ℕ → Type 0) (Good : Form → Type 0) → Reads item_at IsItem Good
    → (presence : List ℕ) (number at : ℕ) (forms : List Form) (bytes : List ℕ) (fault : ItemFault) → AllByRecursion Good forms
    → spans_at item_at presence number at forms bytes ≡ Err fault → Broken item_at IsItem presence number forms bytes fault
unfolding spans_at
spans_break item_at IsItem Good reads presence number at [] bytes fault good e = not_err ([], at) fault e
spans_break item_at IsItem Good reads presence number at (form ∷ forms) bytes fault good e =
    let later : ℕ → Read (List Span × ℕ) = λ size. spans_at item_at presence (number + 1) (at + size) forms (drop size bytes) in
    elim (bind_err (named_at item_at presence number form bytes) (λ size. later size >>= λ others. Ok (record { at = at; len = size } ∷ others.0, others.1)) fault e) [
      | inl w ↦
          let n = named_err (is_named presence number) (item_at number form bytes) fault w in
          let here : number ≡ 0 + number = omega arith in
          record {
            before = [];
            each = λ k h. absurd (omega arith);
            inside = omega arith;
            named = subst (λ (m : ℕ). is_named presence m ≡ true) here n.0;
            rest = bytes;
            whole = refl;
            fails = subst (λ (m : ℕ). item_at m form bytes ≡ Err fault) here n.1;
          }
      | inr w ↦
          let size : ℕ = w.0 in
          let here = stands_takes IsItem (is_named presence number) form (item_at number form bytes) bytes size (reads.takes number form bytes size good.0) w.1 in
          let after : later size ≡ Err fault = elim (bind_err (later size) (λ others. Ok (record { at = at; len = size } ∷ others.0, others.1)) fault w.2) [
            | inl v ↦ v
            | inr v ↦ not_err (record { at = at; len = size } ∷ v.0.0, v.0.1) fault v.2
          ] in
          let t = spans_break item_at IsItem Good reads presence (number + 1) (at + size) forms (drop size bytes) fault good.1 after in
          let text : List ℕ = take size bytes in
          let place : length t.before + (number + 1) ≡ suc (length t.before) + number = omega arith in
          record {
            before = text ∷ t.before;
            each = each_more IsItem presence number form forms text t.before here.1 t.each;
            inside = let i = t.inside in omega arith;
            named = subst (λ (m : ℕ). is_named presence m ≡ true) place t.named;
            rest = t.rest;
            whole = sym (take-append-drop size bytes) ∙ ap (λ (b : List ℕ). text ++ b) t.whole ∙ sym (append_assoc text (joined t.before) t.rest);
            fails = subst (λ (m : ℕ). item_at m (get_or forms (length t.before) Spare) t.rest ≡ Err fault) place t.fails;
          }
    ]

-- ---- compound items

compound_breaks : (frn : ℕ) (rows : List Form) (bytes : List ℕ) (fault : ItemFault) → list_all is_row rows ≡ true → compound_at frn rows bytes ≡ Err fault → CompoundFails frn rows bytes fault
unfolding compound_at
compound_breaks frn rows bytes fault good e =
    let read : ℕ → Read (List Span × ℕ) = λ primary. spans_at (λ number. simple_at frn) (take primary bytes) 1 primary rows (drop primary bytes) in
    elim (bind_err (primary_at frn (length rows) bytes) (λ primary. end_of (read primary)) fault e) [
      | inl w ↦ inl (primary_breaks frn (length rows) bytes fault w)
      | inr w ↦
          let primary : ℕ = w.0 in
          let front = primary_takes frn (length rows) bytes primary w.1 in
          let failed : read primary ≡ Err fault = elim (bind_err (read primary) (λ found. Ok found.1) fault w.2) [ inl v ↦ v | inr v ↦ not_err v.0.1 fault v.2 ] in
          let t = spans_break (λ number. simple_at frn) IsSimple (λ form. IsTrue (is_row form)) (row_reads frn) (take primary bytes) 1 primary rows (drop primary bytes) fault (all_of is_row rows good) failed in
          let row : IsTrue (is_row (get_or rows (length t.before) Spare)) = all_at (λ form. IsTrue (is_row form)) rows (length t.before) (all_of is_row rows good) t.inside in
          let fails : SimpleFails frn (get_or rows (length t.before) Spare) t.rest fault = simple_breaks frn (get_or rows (length t.before) Spare) t.rest fault (sized_row (get_or rows (length t.before) Spare) row) t.fails in
          inr (
            record {
              presence = take primary bytes;
              octets = front.1;
              before = t.before;
              each = t.each;
              named = t.named;
              rest = t.rest;
              whole = sym (take-append-drop primary bytes) ∙ ap (λ (b : List ℕ). take primary bytes ++ b) t.whole;
              fails = fails;
            },
            front.2,
          )
    ]

item_breaks : (subs : List Form) (frn : ℕ) (form : Form) (bytes : List ℕ) (fault : ItemFault) → IsGood subs form → item_at subs frn form bytes ≡ Err fault → ItemFails subs frn form bytes fault
item_breaks subs frn Spare bytes fault good e = simple_breaks frn Spare bytes fault good.0 e
item_breaks subs frn (Fixed size) bytes fault good e = simple_breaks frn (Fixed size) bytes fault good.0 e
item_breaks subs frn (Extended size) bytes fault good e = simple_breaks frn (Extended size) bytes fault good.0 e
item_breaks subs frn Explicit bytes fault good e = simple_breaks frn Explicit bytes fault good.0 e
item_breaks subs frn (Repeat size) bytes fault good e = simple_breaks frn (Repeat size) bytes fault good.0 e
item_breaks subs frn (Compound first count) bytes fault good e =
    let rows = and_parts (nat_le (first + count) (length subs)) (list_all is_row (rows_of subs first count)) good.1 in
    compound_breaks frn (rows_of subs first count) bytes fault rows.1 e

-- ---- records

joined-absent : (texts : List (List ℕ)) (count : ℕ) → joined (texts ++ replicate count []) ≡ joined texts
joined-absent [] zero = refl
joined-absent [] (suc count) = joined-absent [] count
joined-absent (text ∷ texts) count = ap (λ (b : List ℕ). text ++ b) (joined-absent texts count)

no_more_err : (found : Option ℕ) (fault : ItemFault) → no_more found ≡ Err fault → (frn : ℕ) × (found ≡ Some frn) × (fault ≡ SpareItem frn)
no_more_err None fault e = not_err 0 fault e
no_more_err (Some frn) fault e = (frn, refl, sym (err_is {A = ℕ} (SpareItem frn) fault e))

-- the first item past the table that is named: it is spare
past_table : (uap subs : List Form) (bytes : List ℕ) (fspec : ℕ) (found : List Span × ℕ) (fault : ItemFault) → WellFormed uap subs → IsPresence (take fspec bytes)
    → spans_at (item_at subs) (take fspec bytes) 1 fspec uap (drop fspec bytes) ≡ Ok found
    → no_more (first_named (take fspec bytes) (35 - length uap) (length uap + 1)) ≡ Err fault
    → RowFails (Item subs) (λ frn form rest. ItemFails subs frn form rest fault) uap bytes
past_table uap subs bytes fspec found fault good octets read e =
    let presence : List ℕ = take fspec bytes in
    let n = no_more_err (first_named presence (35 - length uap) (length uap + 1)) fault e in
    let frn : ℕ = n.0 in
    let f = first_named_some presence (35 - length uap) (length uap + 1) frn n.1 in
    let low = f.0 in
    let t = spans_take (item_at subs) (Item subs) (IsGood subs) (item_reads subs) presence 1 fspec uap (drop fspec bytes) found (good_uap uap subs good) read in
    let count : length t.texts ≡ length uap = AreTexts-length (Item subs) presence 1 uap t.texts t.stand in
    let gap : ℕ = frn - 1 - length uap in
    let before : List (List ℕ) = t.texts ++ replicate gap [] in
    let size : length before ≡ frn - 1 = omega (arith, length-append t.texts (replicate gap []), length-replicate {A = List ℕ} gap []) in
    let place : length before + 1 ≡ frn = omega arith in
    let past : get_or uap (length before) Spare ≡ Spare = get_or_past uap (length before) Spare (omega arith) in
    let each : (k : ℕ) → k < length before → Stands (Item subs) (is_named presence (k + 1)) (get_or uap k Spare) (get_or before k []) = λ k h.
    elim (cases_lt k (length uap)) [
      | inl within ↦
          let same : get_or before k [] ≡ get_or t.texts k [] = get_or_append_left t.texts (replicate gap []) [] k (omega arith) in
          subst (λ (text : List ℕ). Stands (Item subs) (is_named presence (k + 1)) (get_or uap k Spare) text) (sym same) (AreTexts-each (Item subs) presence 1 uap t.texts t.stand k within)
      | inr beyond ↦
          let absent : is_named presence (k + 1) ≡ false = f.3 (k + 1) (omega arith) (omega arith) in
          let none : get_or before k [] ≡ [] = get_or-append_right t.texts (replicate gap []) (length uap) k [] count beyond ∙ get_or-replicate gap (k - length uap) [] [] (omega arith) in
          subst (λ (named : Bool). Stands (Item subs) named (get_or uap k Spare) (get_or before k [])) (sym absent) none
    ] in
    let fails : ItemFails subs (length before + 1) (get_or uap (length before) Spare) t.rest fault =
    subst (λ (form : Form). ItemFails subs (length before + 1) form t.rest fault) (sym past) (n.2 ∙ ap (λ (m : ℕ). SpareItem m) (sym place)) in
    record {
      presence = presence;
      octets = octets;
      before = before;
      each = each;
      named = ap (is_named presence) place ∙ f.2;
      rest = t.rest;
      whole = sym (take-append-drop fspec bytes) ∙ ap (λ (b : List ℕ). presence ++ b) t.whole ∙ ap (λ (b : List ℕ). presence ++ (b ++ t.rest)) (sym (joined-absent t.texts gap));
      fails = fails;
    }

pub record_breaks : (uap subs : List Form) (bytes : List ℕ) (fault : ItemFault) → WellFormed uap subs → record_at uap subs bytes ≡ Err fault → IsFirstFault uap subs bytes fault
unfolding record_at
record_breaks uap subs bytes fault good e =
    let read : ℕ → Read (List Span × ℕ) = λ fspec. spans_at (item_at subs) (take fspec bytes) 1 fspec uap (drop fspec bytes) in
    let past : ℕ → Read ℕ = λ fspec. no_more (first_named (take fspec bytes) (35 - length uap) (length uap + 1)) in
    elim (bind_err (fspec_at bytes) (λ fspec. read fspec >>= λ items. past fspec >>= λ none. Ok items) fault e) [
      | inl w ↦ inl (fspec_breaks bytes fault w)
      | inr w ↦
          let fspec : ℕ = w.0 in
          let front = fspec_takes bytes fspec w.1 in
          elim (bind_err (read fspec) (λ items. past fspec >>= λ none. Ok items) fault w.2) [
            | inl v ↦
                let all = good_uap uap subs good in
                let t = spans_break (item_at subs) (Item subs) (IsGood subs) (item_reads subs) (take fspec bytes) 1 fspec uap (drop fspec bytes) fault all v in
                inr (record {
                  presence = take fspec bytes;
                  octets = front.1;
                  before = t.before;
                  each = t.each;
                  named = t.named;
                  rest = t.rest;
                  whole = sym (take-append-drop fspec bytes) ∙ ap (λ (b : List ℕ). take fspec bytes ++ b) t.whole;
                  fails = item_breaks subs (length t.before + 1) (get_or uap (length t.before) Spare) t.rest fault (all_at (IsGood subs) uap (length t.before) all t.inside) t.fails;
                })
            | inr v ↦
                let many : past fspec ≡ Err fault = elim (bind_err (past fspec) (λ none. Ok v.0) fault v.2) [ inl u ↦ u | inr u ↦ not_err v.0 fault u.2 ] in
                inr (past_table uap subs bytes fspec v.0 fault good front.1 v.1 many)
          ]
    ]

fault_some : {A : Type 0} (read : Read A) (f : ItemFault) → fault_of read ≡ Some f → read ≡ Err f
fault_some (Ok x) f e = absurd (cc)
fault_some (Err other) f e = let same : other ≡ f = cc in ap (λ (d : ItemFault). Err d) same

pub first_fault : (uap subs : List Form) → WellFormed uap subs → (bytes : List ℕ) (f : ItemFault) → fault uap subs bytes ≡ Some f → IsFirstFault uap subs bytes f
first_fault uap subs good bytes f e = record_breaks uap subs bytes f good (fault_some (record_at uap subs bytes) f e)
