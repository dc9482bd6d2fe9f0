-- Only one fault is the first: where one is said to be, the reader answers it.
use Rattle.std.proofs.Common.{◌≡◌, ℕ, zero, suc, ◌+◌, ◌-◌, ◌*◌, ◌/◌, ◌%◌, ◌<◌, ◌≤◌, max, inl, inr, Bool, true, false, eqb, ltb, IsTrue, List, [], ◌∷◌, ◌++◌, length, get_or, take, drop, Ok, Err, Option, None, Some, refl, ap, sym, ◌∙◌, subst, arith, append_assoc, eq-eqb, lt-ltb}
use Rattle.std.specs.Option.{option_map}
use Rattle.std.specs.List.{AllByRecursion, list_all}
use Rattle.std.specs.Prelude.{nat_le, ◌↔◌}
use Rattle.std.proofs.Math.Dec.{eqb-suc-zero}
use Rattle.std.proofs.lemmas.Bool.{ne_eqb, cases_lt, leb-true, and_parts}
use Rattle.std.proofs.lemmas.List.{length-take-le, length-drop, take-append-drop, append-nil, drop_more, take_at, drop_at, get_or-take, get_or_past, get_or-drop}
use Rattle.asterix_fields.specs.declared.tables.Form.{Form}
use Rattle.asterix_fields.specs.declared.tables.Form.TheVariants.{Spare, Fixed, Extended, Explicit, Repeat, Compound}
use Rattle.asterix_fields.specs.declared.fault.ItemFault.{ItemFault}
use Rattle.asterix_fields.specs.declared.fault.ItemFault.TheVariants.{LongFspec, PastEnd, SpareItem, SpareSubfield}
use Rattle.asterix_fields.specs.Tables.{has_length, is_row, rows_of, WellFormed}
use Rattle.asterix_fields.specs.Spelling.{joined, is_named, IsSimple, Stands, Item, places}
use Rattle.asterix_fields.specs.Faults.{first_named, so_many, extended_at, explicit_at, repeated_at, simple_at, presence_at, fspec_at, primary_at, spare_subfield, named_at, spans_at, compound_at, item_at, no_more, record_at, fault, fault_of}
use Rattle.asterix_fields.specs.FirstFault.{AllAsk, IsCut, FspecFails, NamesSpare, PrimaryFails, ArePartsOnly, ExplicitFails, RepeatFails, SimpleFails, RowFails, CompoundFails, ItemFails, IsFirstFault}
use Rattle.asterix_fields.proofs.PresenceLaws.{Read, named_take, named_past, first_named_again, first_named_found, fspec_again, primary_again}
use Rattle.asterix_fields.proofs.SimpleLaws.{extended_over}
use Rattle.asterix_fields.proofs.RowLaws.{Reads, stands_again, AreTexts-from_each, spans_again}
use Rattle.asterix_fields.proofs.RecordLaws.{all_of, sized_row, row_reads, IsGood, item_reads, good_uap}
use Rattle.asterix_fields.proofs.FirstFaultLaws.{all_at, first_fault}
use Rattle.asterix_fields.proofs.Steps.{compound_stop, compound_next, record_no_fspec, record_no_items, record_too_many}

-- ---- presence octets

presence_over : (spare : ℕ → Option ItemFault) (past long : ItemFault) (index : ℕ) (octets tail : List ℕ) → AllAsk octets → index + length octets ≤ 4
    → ((i : ℕ) → index ≤ i → i < index + length octets → spare i ≡ None)
    → presence_at spare past long index (octets ++ tail) ≡ presence_at spare past long (index + length octets) tail
unfolding presence_at
presence_over spare past long index [] tail asks few none = ap (λ (n : ℕ). presence_at spare past long n tail) (omega arith)
presence_over spare past long index (octet ∷ rest) tail asks few none =
    let here : spare index ≡ None = none index (omega arith) (omega arith) in
    let odd : eqb (octet % 2) 0 ≡ false = let one = asks.0 in ne_eqb _ _ (omega arith) in
    let before : eqb (index + 1) 5 ≡ false = ne_eqb (index + 1) 5 (omega arith) in
    let again : presence_at spare past long (index + 1) (rest ++ tail) ≡ presence_at spare past long (index + 1 + length rest) tail =
    presence_over spare past long (index + 1) rest tail asks.1 (omega arith) (λ i low high. none i (omega arith) (omega arith)) in
    let sum : index + 1 + length rest ≡ index + length (octet ∷ rest) = omega arith in
    rw (here, odd, before) (again ∙ ap (λ (n : ℕ). presence_at spare past long n tail) sum)

presence_none : (spare : ℕ → Option ItemFault) (past long : ItemFault) (index : ℕ) → presence_at spare past long index [] ≡ Err past
unfolding presence_at
presence_none spare past long index = refl

presence_cut : (spare : ℕ → Option ItemFault) (past long : ItemFault) (bytes : List ℕ) → IsCut bytes → ((i : ℕ) → i < length bytes → spare i ≡ None) → presence_at spare past long 0 bytes ≡ Err past
presence_cut spare past long bytes cut none =
    let few = cut.1 in
    ap (presence_at spare past long 0) (sym (append-nil bytes))
    ∙ presence_over spare past long 0 bytes [] cut.0 (omega arith) (λ i low high. none i (omega arith))
    ∙ presence_none spare past long (0 + length bytes)

presence_long : (spare : ℕ → Option ItemFault) (past long : ItemFault) (index more : ℕ) (bytes : List ℕ) → index + more ≡ 4 → AllAsk (take (suc more) bytes) → suc more ≤ length bytes
    → ((i : ℕ) → index ≤ i → i < 5 → spare i ≡ None) → presence_at spare past long index bytes ≡ Err long
unfolding presence_at
presence_long spare past long index more [] five asks inside none = absurd (omega arith)
presence_long spare past long index zero (octet ∷ rest) five asks inside none =
    let here : spare index ≡ None = none index (omega arith) (omega arith) in
    let odd : eqb (octet % 2) 0 ≡ false = let one = asks.0 in ne_eqb _ _ (omega arith) in
    let fifth : eqb (index + 1) 5 ≡ true = eq-eqb (index + 1) 5 (omega arith) in
    rw (here, odd, fifth) refl
presence_long spare past long index (suc more) (octet ∷ rest) five asks inside none =
    let here : spare index ≡ None = none index (omega arith) (omega arith) in
    let odd : eqb (octet % 2) 0 ≡ false = let one = asks.0 in ne_eqb _ _ (omega arith) in
    let before : eqb (index + 1) 5 ≡ false = ne_eqb (index + 1) 5 (omega arith) in
    rw (here, odd, before) (presence_long spare past long (index + 1) more rest (omega arith) asks.1 (omega arith) (λ i low high. none i (omega arith) high))

presence_spare : (spare : ℕ → Option ItemFault) (past long : ItemFault) (index octet : ℕ) (rest : List ℕ) (found : ItemFault) → spare index ≡ Some found → presence_at spare past long index (octet ∷ rest) ≡ Err found
unfolding presence_at
presence_spare spare past long index octet rest found here = rw here refl

fspec_fails : (bytes : List ℕ) (found : ItemFault) → FspecFails bytes found → fspec_at bytes ≡ Err found
fspec_fails bytes found (inl w) = presence_cut (λ index. None) (PastEnd 0) LongFspec bytes w.0 (λ i h. refl) ∙ ap (λ (d : ItemFault). Err d) (sym w.1)
fspec_fails bytes found (inr w) = presence_long (λ index. None) (PastEnd 0) LongFspec 0 4 bytes refl w.0.0 w.0.1 (λ i low high. refl) ∙ ap (λ (d : ItemFault). Err d) (sym w.1)

spare_none_again : (bytes : List ℕ) (rows index : ℕ) → ((number : ℕ) → rows < number → 7 * index + 1 ≤ number → number ≤ 7 * index + 7 → is_named bytes number ≡ false) → spare_subfield bytes rows index ≡ None
spare_none_again bytes rows index none =
    first_named_again bytes (7 * index + 8 - max (7 * index + 1) (rows + 1)) (max (7 * index + 1) (rows + 1)) (λ number low high. none number (omega arith) (omega arith) (omega arith))

named_within : (bytes : List ℕ) (number : ℕ) → 1 ≤ number → is_named bytes number ≡ true → (number - 1) / 7 < length bytes
named_within bytes number low named =
    elim (cases_lt ((number - 1) / 7) (length bytes)) [
      | inl within ↦ within
      | inr past ↦
          let absent : is_named bytes number ≡ false = named_past bytes number (omega arith) in
          absurd (cc)
    ]

primary_spare_again : (frn rows : ℕ) (bytes : List ℕ) (number : ℕ) → NamesSpare rows bytes number → primary_at frn rows bytes ≡ Err (SpareSubfield frn number)
primary_spare_again frn rows bytes number s =
    let past = s.past in
    let few = s.few in
    let index : ℕ = (number - 1) / 7 in
    let inside : index < length bytes = named_within bytes number (omega arith) s.named in
    let spare : ℕ → Option ItemFault = λ i. option_map (SpareSubfield frn) (spare_subfield bytes rows i) in
    let size : length (take index bytes) ≡ index = length-take-le index bytes (omega arith) in
    let none : (i : ℕ) → 0 ≤ i → i < 0 + length (take index bytes) → spare i ≡ None = λ i low high.
    ap (option_map (SpareSubfield frn)) (spare_none_again bytes rows i (λ m over from to. s.first m over (omega arith))) in
    let from : ℕ = max (7 * index + 1) (rows + 1) in
    let named : spare_subfield bytes rows index ≡ Some number =
    first_named_found bytes (7 * index + 8 - from) from number (omega arith) (omega arith) s.named (λ i low high. s.first i (omega arith) high) in
    let here : spare index ≡ Some (SpareSubfield frn number) = ap (option_map (SpareSubfield frn)) named in
    let over = presence_over spare (PastEnd frn) (SpareSubfield frn 36) 0 (take index bytes) (drop index bytes) s.asked_for (omega arith) none in
    let at : 0 + length (take index bytes) ≡ index = omega arith in
    ap (presence_at spare (PastEnd frn) (SpareSubfield frn 36) 0) (sym (take-append-drop index bytes)) ∙ over
    ∙ ap (λ (n : ℕ). presence_at spare (PastEnd frn) (SpareSubfield frn 36) n (drop index bytes)) at
    ∙ ap (presence_at spare (PastEnd frn) (SpareSubfield frn 36) index) (drop_more bytes index 0 inside)
    ∙ presence_spare spare (PastEnd frn) (SpareSubfield frn 36) index (get_or bytes index 0) (drop (index + 1) bytes) (SpareSubfield frn number) here

primary_fails : (frn rows : ℕ) (bytes : List ℕ) (found : ItemFault) → PrimaryFails frn rows bytes found → primary_at frn rows bytes ≡ Err found
primary_fails frn rows bytes found (inl w) = primary_spare_again frn rows bytes w.0 w.1 ∙ ap (λ (d : ItemFault). Err d) (sym w.2)
primary_fails frn rows bytes found (inr (inl w)) =
    presence_cut (λ i. option_map (SpareSubfield frn) (spare_subfield bytes rows i)) (PastEnd frn) (SpareSubfield frn 36) bytes w.0
    (λ i h. ap (option_map (SpareSubfield frn)) (spare_none_again bytes rows i (λ m over from to. w.1 m over)))
    ∙ ap (λ (d : ItemFault). Err d) (sym w.2)
primary_fails frn rows bytes found (inr (inr w)) =
    presence_long (λ i. option_map (SpareSubfield frn) (spare_subfield bytes rows i)) (PastEnd frn) (SpareSubfield frn 36) 0 4 bytes refl w.0.0 w.0.1
    (λ i low high. ap (option_map (SpareSubfield frn)) (spare_none_again bytes rows i (λ m over from to. sym (named_take bytes 5 m (omega arith) (omega arith)) ∙ w.1 m over)))
    ∙ ap (λ (d : ItemFault). Err d) (sym w.2)

-- ---- items that aren't compound

so_many_fails : (frn size : ℕ) (bytes : List ℕ) → length bytes < size → so_many frn size bytes ≡ Err (PastEnd frn)
so_many_fails frn size bytes short =
    let test : ltb (length bytes) size ≡ true = lt-ltb _ _ short in
    rw test refl

extended_short : (frn size left index : ℕ) (bytes : List ℕ) → length bytes < left → extended_at frn size left index bytes ≡ Err (PastEnd frn)
unfolding extended_at
extended_short frn size left index [] short = refl
extended_short frn size left index (octet ∷ rest) short =
    let apart : eqb left 1 ≡ false = ne_eqb left 1 (omega arith) in
    rw apart (extended_short frn size (left - 1) (index + 1) rest (omega arith))

extended_fails : (frn size index : ℕ) (parts : List (List ℕ)) (rest : List ℕ) → 1 ≤ size → ArePartsOnly size parts rest → extended_at frn size size index (joined parts ++ rest) ≡ Err (PastEnd frn)
extended_fails frn size index [] rest low h = extended_short frn size size index rest h
extended_fails frn size index (part ∷ parts) rest low h =
    let over = extended_over frn size size index part (joined parts ++ rest) low h.0 in
    let odd : eqb (get_or part (size - 1) 0 % 2) 0 ≡ false = let one = h.1 in ne_eqb _ _ (omega arith) in
    ap (extended_at frn size size index) (append_assoc part (joined parts) rest) ∙ over ∙ rw odd (extended_fails frn size (index + size) parts rest low h.2)

explicit_fails : (frn : ℕ) (bytes : List ℕ) (found : ItemFault) → ExplicitFails frn bytes found → explicit_at frn bytes ≡ Err found
explicit_fails frn [] found h = ap (λ (d : ItemFault). Err d) (sym h)
explicit_fails frn (zero ∷ rest) found h = ap (λ (d : ItemFault). Err d) (sym h)
explicit_fails frn (suc more ∷ rest) found h =
    let some : eqb (suc more) 0 ≡ false = eqb-suc-zero more in
    let short = h.0 in
    rw some (so_many_fails frn (suc more) (suc more ∷ rest) (omega arith) ∙ ap (λ (d : ItemFault). Err d) (sym h.1))

repeat_fails : (frn size : ℕ) (bytes : List ℕ) (found : ItemFault) → RepeatFails frn size bytes found → repeated_at frn size bytes ≡ Err found
repeat_fails frn size [] found h = ap (λ (d : ItemFault). Err d) (sym h)
repeat_fails frn size (count ∷ groups) found h =
    let short = h.0 in
    so_many_fails frn (1 + size * count) (count ∷ groups) (omega arith) ∙ ap (λ (d : ItemFault). Err d) (sym h.1)

simple_fails : (frn : ℕ) (form : Form) (bytes : List ℕ) (found : ItemFault) → IsTrue (has_length form) → SimpleFails frn form bytes found → simple_at frn form bytes ≡ Err found
simple_fails frn Spare bytes found sized h = ap (λ (d : ItemFault). Err d) (sym h)
simple_fails frn (Fixed size) bytes found sized h = so_many_fails frn size bytes h.0 ∙ ap (λ (d : ItemFault). Err d) (sym h.1)
simple_fails frn (Extended size) bytes found sized h =
    ap (extended_at frn size size 0) h.3 ∙ extended_fails frn size 0 h.0 h.1 (leb-true 1 size sized) h.2 ∙ ap (λ (d : ItemFault). Err d) (sym h.4)
simple_fails frn Explicit bytes found sized h = explicit_fails frn bytes found h
simple_fails frn (Repeat size) bytes found sized h = repeat_fails frn size bytes found h
simple_fails frn (Compound first count) bytes found sized h = ap (λ (d : ItemFault). Err d) (sym h)

-- ---- rows

spans_fail : (item_at : ℕ → Form → List ℕ → Read ℕ) (IsItem : Form → List ℕ → Type 0) (Good : Form → Type 0) → Reads item_at IsItem Good
    → (presence : List ℕ) (number at : ℕ) (forms : List Form) (before : List (List ℕ)) (rest : List ℕ) (found : ItemFault) → AllByRecursion Good forms
    → length before < length forms
    → ((k : ℕ) → k < length before → Stands IsItem (is_named presence (k + number)) (get_or forms k Spare) (get_or before k []))
    → is_named presence (length before + number) ≡ true → item_at (length before + number) (get_or forms (length before) Spare) rest ≡ Err found
    → spans_at item_at presence number at forms (joined before ++ rest) ≡ Err found
unfolding spans_at
spans_fail item_at IsItem Good reads presence number at [] before rest found good inside each named fails = absurd (omega arith)
spans_fail item_at IsItem Good reads presence number at (form ∷ forms) [] rest found good inside each named fails =
    let here : 0 + number ≡ number = omega arith in
    let named' : is_named presence number ≡ true = subst (λ (m : ℕ). is_named presence m ≡ true) here named in
    let fails' : item_at number form rest ≡ Err found = subst (λ (m : ℕ). item_at m form rest ≡ Err found) here fails in
    let first : named_at item_at presence number form rest ≡ Err found = rw named' fails' in
    rw first refl
spans_fail item_at IsItem Good reads presence number at (form ∷ forms) (text ∷ before) rest found good inside each named fails =
    let tail : List ℕ = joined before ++ rest in
    let here : 0 + number ≡ number = omega arith in
    let stands : Stands IsItem (is_named presence number) form text = subst (λ (m : ℕ). Stands IsItem (is_named presence m) form text) here (each 0 (omega arith)) in
    let first : named_at item_at presence number form (text ++ tail) ≡ Ok (length text) =
    stands_again IsItem (is_named presence number) form (item_at number form (text ++ tail)) text (reads.again number form text tail good.0) stands in
    let place : suc (length before) + number ≡ length before + (number + 1) = omega arith in
    let others = spans_fail item_at IsItem Good reads presence (number + 1) (at + length text) forms before rest found good.1 (omega arith)
    (λ k h. let shift : suc k + number ≡ k + (number + 1) = omega arith in
    subst (λ (m : ℕ). Stands IsItem (is_named presence m) (get_or forms k Spare) (get_or before k [])) shift (each (suc k) (omega arith)))
    (subst (λ (m : ℕ). is_named presence m ≡ true) place named)
    (subst (λ (m : ℕ). item_at m (get_or forms (length before) Spare) rest ≡ Err found) place fails) in
    let rest_is : drop (length text) (text ++ tail) ≡ tail = drop_at text tail (length text) refl in
    ap (spans_at item_at presence number at (form ∷ forms)) (append_assoc text (joined before) rest) ∙ rw (first, rest_is, others) refl

-- ---- compound items

compound_fails : (frn : ℕ) (rows : List Form) (bytes : List ℕ) (found : ItemFault) → list_all is_row rows ≡ true → CompoundFails frn rows bytes found → compound_at frn rows bytes ≡ Err found
compound_fails frn rows bytes found good (inl w) = compound_stop frn rows bytes found (primary_fails frn (length rows) bytes found w)
compound_fails frn rows bytes found good (inr w) =
    let row = w.0 in
    let presence : List ℕ = row.presence in
    let tail : List ℕ = joined row.before ++ row.rest in
    let size : ℕ = length presence in
    let primary : primary_at frn (length rows) (presence ++ tail) ≡ Ok size = primary_again frn (length rows) presence tail row.octets w.1 in
    let taken : take size (presence ++ tail) ≡ presence = take_at presence tail size refl in
    let left : drop size (presence ++ tail) ≡ tail = drop_at presence tail size refl in
    let inside : length row.before < length rows = elim (cases_lt (length row.before) (length rows)) [
      | inl within ↦ within
      | inr past ↦
          let absent = w.1 (length row.before + 1) (omega arith) in
          let named = row.named in
          absurd (cc)
    ] in
    let good_row : IsTrue (is_row (get_or rows (length row.before) Spare)) = all_at (λ form. IsTrue (is_row form)) rows (length row.before) (all_of is_row rows good) inside in
    let fails = simple_fails frn (get_or rows (length row.before) Spare) row.rest found (sized_row (get_or rows (length row.before) Spare) good_row) row.fails in
    let read : spans_at (λ number. simple_at frn) presence 1 size rows tail ≡ Err found =
    spans_fail (λ number. simple_at frn) IsSimple (λ form. IsTrue (is_row form)) (row_reads frn) presence 1 size rows row.before row.rest found (all_of is_row rows good) inside row.each row.named fails in
    ap (compound_at frn rows) row.whole ∙ compound_next frn rows (presence ++ tail) size primary ∙ rw (taken, left, read) refl

item_fails : (subs : List Form) (frn : ℕ) (form : Form) (bytes : List ℕ) (found : ItemFault) → IsGood subs form → ItemFails subs frn form bytes found → item_at subs frn form bytes ≡ Err found
item_fails subs frn Spare bytes found good h = simple_fails frn Spare bytes found good.0 h
item_fails subs frn (Fixed size) bytes found good h = simple_fails frn (Fixed size) bytes found good.0 h
item_fails subs frn (Extended size) bytes found good h = simple_fails frn (Extended size) bytes found good.0 h
item_fails subs frn Explicit bytes found good h = simple_fails frn Explicit bytes found good.0 h
item_fails subs frn (Repeat size) bytes found good h = simple_fails frn (Repeat size) bytes found good.0 h
item_fails subs frn (Compound first count) bytes found good h =
    let rows = and_parts (nat_le (first + count) (length subs)) (list_all is_row (rows_of subs first count)) good.1 in
    compound_fails frn (rows_of subs first count) bytes found rows.1 h

-- ---- records

joined-append : (texts others : List (List ℕ)) → joined (texts ++ others) ≡ joined texts ++ joined others
joined-append [] others = refl
joined-append (text ∷ texts) others = ap (λ (b : List ℕ). text ++ b) (joined-append texts others) ∙ sym (append_assoc text (joined texts) (joined others))

joined_nothing : (texts : List (List ℕ)) → ((k : ℕ) → k < length texts → get_or texts k [] ≡ []) → joined texts ≡ []
joined_nothing [] none = refl
joined_nothing (text ∷ texts) none = ap (λ (t : List ℕ). t ++ joined texts) (none 0 (omega arith)) ∙ joined_nothing texts (λ k h. none (suc k) (omega arith))

spare_stands : (subs : List Form) (named : Bool) (text : List ℕ) → Stands (Item subs) named Spare text → (named ≡ false) × (text ≡ [])
spare_stands subs true text h = absurd h
spare_stands subs false text h = (refl, h)

-- a row past the table's end isn't named, and has no octet
spare_at : (subs uap : List Form) (presence text : List ℕ) (k : ℕ) → length uap ≤ k → Stands (Item subs) (is_named presence (k + 1)) (get_or uap k Spare) text → (is_named presence (k + 1) ≡ false) × (text ≡ [])
spare_at subs uap presence text k past stands =
    spare_stands subs (is_named presence (k + 1)) text (subst (λ (form : Form). Stands (Item subs) (is_named presence (k + 1)) form text) (get_or_past uap k Spare past) stands)

past_fails : (uap subs : List Form) (bytes : List ℕ) (found : ItemFault) → WellFormed uap subs → (row : RowFails (Item subs) (λ frn form rest. ItemFails subs frn form rest found) uap bytes)
    → length uap ≤ length row.before → record_at uap subs bytes ≡ Err found
past_fails uap subs bytes found good row past =
    let presence : List ℕ = row.presence in
    let before : List (List ℕ) = row.before in
    let n : ℕ = length uap in
    let frn : ℕ = length before + 1 in
    let size : ℕ = length presence in
    let tail : List ℕ = joined before ++ row.rest in
    let texts : List (List ℕ) = take n before in
    let others : List (List ℕ) = drop n before in
    let many : length others ≡ length before - n = length-drop n before in
    let nothing : joined others ≡ [] = joined_nothing others (λ k h.
    let at : get_or others k [] ≡ get_or before (n + k) [] = get_or-drop n before k [] in
    at ∙ (spare_at subs uap presence (get_or before (n + k) []) (n + k) (omega arith) (row.each (n + k) (omega arith))).1) in
    let all : joined before ≡ joined texts =
    ap joined (sym (take-append-drop n before)) ∙ joined-append texts others ∙ ap (λ (b : List ℕ). joined texts ++ b) nothing ∙ append-nil (joined texts) in
    let count : length texts ≡ n = length-take-le n before past in
    let stand = AreTexts-from_each (Item subs) presence 1 uap texts count (λ k h.
    let same : get_or texts k [] ≡ get_or before k [] = get_or-take n before k [] h in
    subst (λ (text : List ℕ). Stands (Item subs) (is_named presence (k + 1)) (get_or uap k Spare) text) (sym same) (row.each k (omega arith))) in
    let read = spans_again (item_at subs) (Item subs) (IsGood subs) (item_reads subs) presence 1 size uap texts row.rest (good_uap uap subs good) stand in
    let fspec : fspec_at (presence ++ tail) ≡ Ok size = fspec_again presence tail row.octets in
    let taken : take size (presence ++ tail) ≡ presence = take_at presence tail size refl in
    let left : drop size (presence ++ tail) ≡ joined texts ++ row.rest = drop_at presence tail size refl ∙ ap (λ (b : List ℕ). b ++ row.rest) all in
    let reached : (frn - 1) / 7 < size = named_within presence frn (omega arith) row.named in
    let few : frn ≤ 35 = let five = row.octets.1 in omega arith in
    let first : first_named presence (35 - n) (n + 1) ≡ Some frn =
    first_named_found presence (35 - n) (n + 1) frn (omega arith) (omega arith) row.named (λ i low high.
    let back : i - 1 + 1 ≡ i = omega arith in
    subst (λ (m : ℕ). is_named presence m ≡ false) back
    (spare_at subs uap presence (get_or before (i - 1) []) (i - 1) (omega arith) (row.each (i - 1) (omega arith))).0) in
    let spare : found ≡ SpareItem frn =
    subst (λ (form : Form). ItemFails subs frn form row.rest found) (get_or_past uap (length before) Spare past) row.fails in
    let items : spans_at (item_at subs) (take size (presence ++ tail)) 1 size uap (drop size (presence ++ tail)) ≡ Ok (places size texts, size + length (joined texts)) = rw (taken, left) read in
    let past_it : no_more (first_named (take size (presence ++ tail)) (35 - n) (n + 1)) ≡ Err found = rw (taken, first) (ap (λ (d : ItemFault). Err d) (sym spare)) in
    ap (record_at uap subs) row.whole ∙ record_too_many uap subs (presence ++ tail) size (places size texts, size + length (joined texts)) found fspec items past_it

within_fails : (uap subs : List Form) (bytes : List ℕ) (found : ItemFault) → WellFormed uap subs → (row : RowFails (Item subs) (λ frn form rest. ItemFails subs frn form rest found) uap bytes)
    → length row.before < length uap → record_at uap subs bytes ≡ Err found
within_fails uap subs bytes found good row inside =
    let presence : List ℕ = row.presence in
    let tail : List ℕ = joined row.before ++ row.rest in
    let size : ℕ = length presence in
    let all = good_uap uap subs good in
    let fspec : fspec_at (presence ++ tail) ≡ Ok size = fspec_again presence tail row.octets in
    let taken : take size (presence ++ tail) ≡ presence = take_at presence tail size refl in
    let left : drop size (presence ++ tail) ≡ tail = drop_at presence tail size refl in
    let form : Form = get_or uap (length row.before) Spare in
    let fails : item_at subs (length row.before + 1) form row.rest ≡ Err found =
    item_fails subs (length row.before + 1) form row.rest found (all_at (IsGood subs) uap (length row.before) all inside) row.fails in
    let read = spans_fail (item_at subs) (Item subs) (IsGood subs) (item_reads subs) presence 1 size uap row.before row.rest found all inside row.each row.named fails in
    let items : spans_at (item_at subs) (take size (presence ++ tail)) 1 size uap (drop size (presence ++ tail)) ≡ Err found = rw (taken, left) read in
    ap (record_at uap subs) row.whole ∙ record_no_items uap subs (presence ++ tail) size found fspec items

pub record_fails : (uap subs : List Form) (bytes : List ℕ) (found : ItemFault) → WellFormed uap subs → IsFirstFault uap subs bytes found → record_at uap subs bytes ≡ Err found
record_fails uap subs bytes found good (inl w) = record_no_fspec uap subs bytes found (fspec_fails bytes found w)
record_fails uap subs bytes found good (inr row) =
    elim (cases_lt (length row.before) (length uap)) [
      | inl inside ↦ within_fails uap subs bytes found good row inside
      | inr past ↦ past_fails uap subs bytes found good row past
    ]

pub one_fault : (uap subs : List Form) → WellFormed uap subs → (bytes : List ℕ) (found : ItemFault) → (fault uap subs bytes ≡ Some found) ↔ IsFirstFault uap subs bytes found
one_fault uap subs good bytes found =
    (first_fault uap subs good bytes found, λ first. ap fault_of (record_fails uap subs bytes found good first))
