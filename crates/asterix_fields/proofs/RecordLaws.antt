-- Compound items and records: what is read is spelled, what is spelled is read, and so no text begins with two records.
use Rattle.std.proofs.Common.{get_or, length-append, length-take-le, ◌≡◌, ℕ, ◌+◌, ◌-◌, ◌<◌, ◌≤◌, inl, inr, Bool, true, false, IsTrue, List, [], ◌∷◌, ◌++◌, length, take, drop, Ok, Err, Option, None, Some, refl, ap, sym, ◌∙◌, subst, arith, append_assoc}
use Rattle.std.specs.List.{All, AllByRecursion, list_all}
use Rattle.std.specs.Prelude.{nat_le, ◌&&◌}
use Rattle.std.proofs.lemmas.Bool.{cases_lt, leb-true, and_parts}
use Rattle.std.proofs.lemmas.List.Elements.{All-from_recursion}
use Rattle.std.proofs.lemmas.List.{get_or-map, length-map, take_at, drop_at}
use Rattle.asterix_fields.specs.declared.tables.Form.{Form}
use Rattle.asterix_fields.specs.declared.tables.Form.TheVariants.{Spare, Fixed, Extended, Explicit, Repeat, Compound}
use Rattle.asterix_fields.specs.declared.places.Span.{Span}
use Rattle.asterix_fields.specs.declared.fault.ItemFault.{ItemFault}
use Rattle.asterix_fields.specs.declared.fault.ItemFault.TheVariants.{SpareItem}
use Rattle.asterix_fields.specs.Tables.{has_length, is_row, rows_of, has_rows, WellFormed}
use Rattle.asterix_fields.specs.Spelling.{joined, is_named, IsSimple, Lays, Item, Stands, Spells, places, texts_at, IsWalk}
use Rattle.asterix_fields.specs.Faults.{◌>>=◌, first_named, simple_at, primary_at, fspec_at, spans_at, end_of, compound_at, item_at, no_more, record_at}
use Rattle.asterix_fields.proofs.PresenceLaws.{Read, ok_is, not_ok, primary_takes, primary_again, fspec_takes, fspec_again, first_named_none, first_named_again, named_past}
use Rattle.asterix_fields.proofs.SimpleLaws.{simple_takes, simple_again}
use Rattle.asterix_fields.proofs.RowLaws.{bind_ok, Reads, lays_take, lays_again, texts_at-places}

pub all_of : (test : Form → Bool) (forms : List Form) → list_all test forms ≡ true → AllByRecursion (λ form. IsTrue (test form)) forms
all_of test [] e = tt
all_of test (form ∷ forms) e = let both = and_parts (test form) (list_all test forms) e in (both.0, all_of test forms both.1)

pub sized_row : (form : Form) → IsTrue (is_row form) → IsTrue (has_length form)
sized_row Spare h = refl
sized_row (Fixed size) h = h
sized_row (Extended size) h = absurd (cc)
sized_row Explicit h = refl
sized_row (Repeat size) h = refl
sized_row (Compound first count) h = refl

-- ---- compound items

pub row_reads : (frn : ℕ) → Reads (λ number. simple_at frn) IsSimple (λ form. IsTrue (is_row form))
row_reads frn = record {
  takes = λ number form bytes n good e. simple_takes frn form bytes n (sized_row form good) e;
  again = λ number form text rest good h. simple_again frn form text rest (sized_row form good) h;
}

compound_takes : (frn : ℕ) (rows : List Form) (bytes : List ℕ) (n : ℕ) → list_all is_row rows ≡ true → compound_at frn rows bytes ≡ Ok n
    → (n ≤ length bytes) × ((subfields : List (List ℕ)) × Lays IsSimple rows (take n bytes) subfields)
unfolding compound_at
compound_takes frn rows bytes n good e =
    let read : ℕ → Read (List Span × ℕ) = λ primary. spans_at (λ number. simple_at frn) (take primary bytes) 1 primary rows (drop primary bytes) in
    let p = bind_ok (primary_at frn (length rows) bytes) (λ primary. end_of (read primary)) n e in
    let s = bind_ok (read p.0) (λ found. Ok found.1) n p.2 in
    let end : s.0.1 ≡ n = ok_is s.0.1 n s.2 in
    let front = primary_takes frn (length rows) bytes p.0 p.1 in
    let laid = lays_take (λ number. simple_at frn) IsSimple (λ form. IsTrue (is_row form)) (row_reads frn) rows bytes p.0 s.0 (all_of is_row rows good) front.0 front.1 front.2 s.1 in
    subst (λ (m : ℕ). (m ≤ length bytes) × ((subfields : List (List ℕ)) × Lays IsSimple rows (take m bytes) subfields)) end (laid.inside, (laid.texts, laid.lays))

compound_again : (frn : ℕ) (rows : List Form) (text rest : List ℕ) (subfields : List (List ℕ)) → list_all is_row rows ≡ true → Lays IsSimple rows text subfields
    → compound_at frn rows (text ++ rest) ≡ Ok (length text)
unfolding compound_at
compound_again frn rows text rest subfields good lays =
    let front : List ℕ = lays.presence in
    let tail : List ℕ = joined subfields ++ rest in
    let regrouped : text ++ rest ≡ front ++ tail = ap (λ (t : List ℕ). t ++ rest) lays.whole ∙ append_assoc front (joined subfields) rest in
    let primary : primary_at frn (length rows) (front ++ tail) ≡ Ok (length front) = primary_again frn (length rows) front tail lays.octets lays.only_rows in
    let taken : take (length front) (front ++ tail) ≡ front = take_at front tail (length front) refl in
    let left : drop (length front) (front ++ tail) ≡ tail = drop_at front tail (length front) refl in
    let read = lays_again (λ number. simple_at frn) IsSimple (λ form. IsTrue (is_row form)) (row_reads frn) rows text rest subfields (all_of is_row rows good) lays in
    ap (compound_at frn rows) regrouped ∙ rw (primary, taken, left, read) refl

-- ---- items

abbrev pub IsGood : List Form → Form → Type 0
IsGood subs form = IsTrue (has_length form) × IsTrue (has_rows subs form)

item_takes : (subs : List Form) (frn : ℕ) (form : Form) (bytes : List ℕ) (n : ℕ) → IsGood subs form → item_at subs frn form bytes ≡ Ok n → (n ≤ length bytes) × Item subs form (take n bytes)
item_takes subs frn Spare bytes n good e = not_ok (SpareItem frn) n e
item_takes subs frn (Fixed size) bytes n good e = simple_takes frn (Fixed size) bytes n good.0 e
item_takes subs frn (Extended size) bytes n good e = simple_takes frn (Extended size) bytes n good.0 e
item_takes subs frn Explicit bytes n good e = simple_takes frn Explicit bytes n good.0 e
item_takes subs frn (Repeat size) bytes n good e = simple_takes frn (Repeat size) bytes n good.0 e
item_takes subs frn (Compound first count) bytes n good e =
    let rows = and_parts (nat_le (first + count) (length subs)) (list_all is_row (rows_of subs first count)) good.1 in
    compound_takes frn (rows_of subs first count) bytes n rows.1 e

item_again : (subs : List Form) (frn : ℕ) (form : Form) (text rest : List ℕ) → IsGood subs form → Item subs form text → item_at subs frn form (text ++ rest) ≡ Ok (length text)
item_again subs frn Spare text rest good h = absurd h
item_again subs frn (Fixed size) text rest good h = simple_again frn (Fixed size) text rest good.0 h
item_again subs frn (Extended size) text rest good h = simple_again frn (Extended size) text rest good.0 h
item_again subs frn Explicit text rest good h = simple_again frn Explicit text rest good.0 h
item_again subs frn (Repeat size) text rest good h = simple_again frn (Repeat size) text rest good.0 h
item_again subs frn (Compound first count) text rest good h =
    let rows = and_parts (nat_le (first + count) (length subs)) (list_all is_row (rows_of subs first count)) good.1 in
    compound_again frn (rows_of subs first count) text rest h.0 rows.1 h.1

pub item_reads : (subs : List Form) → Reads (item_at subs) (Item subs) (IsGood subs)
item_reads subs = record { takes = item_takes subs; again = item_again subs }

good_items : (subs forms : List Form) → list_all has_length forms ≡ true → list_all (has_rows subs) forms ≡ true → AllByRecursion (IsGood subs) forms
good_items subs [] e f = tt
good_items subs (form ∷ forms) e f =
    let a = and_parts (has_length form) (list_all has_length forms) e in
    let b = and_parts (has_rows subs form) (list_all (has_rows subs) forms) f in
    ((a.0, b.0), good_items subs forms a.1 b.1)

pub good_uap : (uap subs : List Form) → WellFormed uap subs → AllByRecursion (IsGood subs) uap
good_uap uap subs h =
    let a = and_parts (nat_le (length uap) 35 && list_all has_length uap && list_all has_length subs) (list_all (has_rows subs) uap) h in
    let b = and_parts (nat_le (length uap) 35 && list_all has_length uap) (list_all has_length subs) a.0 in
    let d = and_parts (nat_le (length uap) 35) (list_all has_length uap) b.0 in
    good_items subs uap d.1 a.1

few_items : (uap subs : List Form) → WellFormed uap subs → length uap ≤ 35
few_items uap subs h =
    let a = and_parts (nat_le (length uap) 35 && list_all has_length uap && list_all has_length subs) (list_all (has_rows subs) uap) h in
    let b = and_parts (nat_le (length uap) 35 && list_all has_length uap) (list_all has_length subs) a.0 in
    let d = and_parts (nat_le (length uap) 35) (list_all has_length uap) b.0 in
    leb-true (length uap) 35 d.0

-- ---- records

no_more_ok : (found : Option ℕ) (n : ℕ) → no_more found ≡ Ok n → found ≡ None
no_more_ok None n e = refl
no_more_ok (Some frn) n e = not_ok (SpareItem frn) n e

pub record_takes : (uap subs : List Form) (bytes : List ℕ) (found : List Span × ℕ) → WellFormed uap subs → record_at uap subs bytes ≡ Ok found → IsWalk uap subs bytes found.0 found.1
unfolding record_at
record_takes uap subs bytes found good e =
    let read : ℕ → Read (List Span × ℕ) = λ fspec. spans_at (item_at subs) (take fspec bytes) 1 fspec uap (drop fspec bytes) in
    let past : ℕ → Read ℕ = λ fspec. no_more (first_named (take fspec bytes) (35 - length uap) (length uap + 1)) in
    let p = bind_ok (fspec_at bytes) (λ fspec. read fspec >>= λ items. past fspec >>= λ none. Ok items) found e in
    let s = bind_ok (read p.0) (λ items. past p.0 >>= λ none. Ok items) found p.2 in
    let q = bind_ok (past p.0) (λ none. Ok s.0) found s.2 in
    let same : s.0 ≡ found = ok_is s.0 found q.2 in
    let n : ℕ = p.0 in
    let front = fspec_takes bytes n p.1 in
    let few = few_items uap subs good in
    let none = no_more_ok (first_named (take n bytes) (35 - length uap) (length uap + 1)) q.0 q.1 in
    let only : (number : ℕ) → length uap < number → is_named (take n bytes) number ≡ false = λ number high.
    elim (cases_lt 35 number) [
      | inl beyond ↦ named_past (take n bytes) number (let five = front.1.1 in omega arith)
      | inr within ↦ first_named_none (take n bytes) (35 - length uap) (length uap + 1) none number (omega arith) (omega arith)
    ] in
    let laid = lays_take (item_at subs) (Item subs) (IsGood subs) (item_reads subs) uap bytes n s.0 (good_uap uap subs good) front.0 front.1 only s.1 in
    let placed : (spelled : Spells uap subs (take s.0.1 bytes) (texts_at bytes s.0.0)) × (s.0.0 ≡ places (length spelled.presence) (texts_at bytes s.0.0)) =
    subst (λ (texts : List (List ℕ)). (spelled : Spells uap subs (take s.0.1 bytes) texts) × (s.0.0 ≡ places (length spelled.presence) texts)) (sym laid.read)
    (laid.lays, laid.spans ∙ ap (λ (m : ℕ). places m laid.texts) (sym laid.size)) in
    subst (λ (f : List Span × ℕ). IsWalk uap subs bytes f.0 f.1) same (record { inside = laid.inside; spelled = placed.0; in_order = placed.1 })

pub record_again : (uap subs : List Form) (text rest : List ℕ) (items : List (List ℕ)) → WellFormed uap subs → (spelled : Spells uap subs text items)
    → record_at uap subs (text ++ rest) ≡ Ok (places (length spelled.presence) items, length text)
unfolding record_at
record_again uap subs text rest items good spelled =
    let front : List ℕ = spelled.presence in
    let tail : List ℕ = joined items ++ rest in
    let regrouped : text ++ rest ≡ front ++ tail = ap (λ (t : List ℕ). t ++ rest) spelled.whole ∙ append_assoc front (joined items) rest in
    let fspec : fspec_at (front ++ tail) ≡ Ok (length front) = fspec_again front tail spelled.octets in
    let taken : take (length front) (front ++ tail) ≡ front = take_at front tail (length front) refl in
    let left : drop (length front) (front ++ tail) ≡ tail = drop_at front tail (length front) refl in
    let read = lays_again (item_at subs) (Item subs) (IsGood subs) (item_reads subs) uap text rest items (good_uap uap subs good) spelled in
    let none : first_named front (35 - length uap) (length uap + 1) ≡ None =
    first_named_again front (35 - length uap) (length uap + 1) (λ number low high. spelled.only_rows number (omega arith)) in
    ap (record_at uap subs) regrouped ∙ rw (fspec, taken, left, read, none) refl

-- the items of a spelled record are the texts at their places
pub items_of_record : (uap subs : List Form) (text rest : List ℕ) (items : List (List ℕ)) → (spelled : Spells uap subs text items)
    → texts_at (text ++ rest) (places (length spelled.presence) items) ≡ items
items_of_record uap subs text rest items spelled =
    let front : List ℕ = spelled.presence in
    let regrouped : text ++ rest ≡ front ++ (joined items ++ rest) = ap (λ (t : List ℕ). t ++ rest) spelled.whole ∙ append_assoc front (joined items) rest in
    ap (λ (b : List ℕ). texts_at b (places (length front) items)) regrouped ∙ texts_at-places front items rest

pub one_spelling : (uap subs : List Form) → WellFormed uap subs → (a b x y : List ℕ) (m n : List (List ℕ)) → Spells uap subs a m → Spells uap subs b n → a ++ x ≡ b ++ y → (a ≡ b) × (m ≡ n)
one_spelling uap subs good a b x y m n first second same =
    let one = record_again uap subs a x m good first in
    let two = record_again uap subs b y n good second in
    let both : (let r : Read (List Span × ℕ) = Ok (places (length first.presence) m, length a) in r ≡ Ok (places (length second.presence) n, length b)) =
    sym one ∙ ap (record_at uap subs) same ∙ two in
    let pair = ok_is (places (length first.presence) m, length a) (places (length second.presence) n, length b) both in
    let long : length a ≡ length b = ap (λ (p : List Span × ℕ). p.1) pair in
    let spans : places (length first.presence) m ≡ places (length second.presence) n = ap (λ (p : List Span × ℕ). p.0) pair in
    let texts : a ≡ b = sym (take_at a x (length a) refl) ∙ ap (take (length a)) same ∙ ap (λ (k : ℕ). take k (b ++ y)) long ∙ take_at b y (length b) refl in
    let items : m ≡ n = sym (items_of_record uap subs a x m first) ∙ ap (λ (t : List ℕ). texts_at t (places (length first.presence) m)) same ∙ ap (texts_at (b ++ y)) spans ∙ items_of_record uap subs b y n second in
    (texts, items)

-- what is spelled at the front is what was found
pub only_found : (uap subs : List Form) (bytes : List ℕ) (found : List Span × ℕ) → WellFormed uap subs → record_at uap subs bytes ≡ Ok found
    → (text rest : List ℕ) (items : List (List ℕ)) → Spells uap subs text items → bytes ≡ text ++ rest → (found.1 ≡ length text) × (texts_at bytes found.0 ≡ items)
only_found uap subs bytes found good e text rest items spelled same =
    let again : (let r : Read (List Span × ℕ) = Ok found in r ≡ Ok (places (length spelled.presence) items, length text)) =
    sym e ∙ ap (record_at uap subs) same ∙ record_again uap subs text rest items good spelled in
    let pair = ok_is found (places (length spelled.presence) items, length text) again in
    let spans : found.0 ≡ places (length spelled.presence) items = ap (λ (p : List Span × ℕ). p.0) pair in (
      ap (λ (p : List Span × ℕ). p.1) pair,
      ap (λ (b : List ℕ). texts_at b found.0) same ∙ ap (texts_at (text ++ rest)) spans ∙ items_of_record uap subs text rest items spelled,
    )

-- nothing is spelled at the front where there is a fault
pub none_refused : (uap subs : List Form) (bytes : List ℕ) (fault : ItemFault) → WellFormed uap subs → record_at uap subs bytes ≡ Err fault
    → (text rest : List ℕ) (items : List (List ℕ)) → Spells uap subs text items → bytes ≡ text ++ rest → ⊥
none_refused uap subs bytes fault good e text rest items spelled same =
    not_ok fault (places (length spelled.presence) items, length text) (sym e ∙ ap (record_at uap subs) same ∙ record_again uap subs text rest items good spelled)

-- ---- for those who read items

-- each place ends within the record
pub places_within : (at : ℕ) (texts : List (List ℕ)) (end : ℕ) → at + length (joined texts) ≤ end → AllByRecursion (λ span. span.at + span.len ≤ end) (places at texts)
places_within at [] end h = tt
places_within at (text ∷ texts) end h = (
  omega (arith, length-append text (joined texts)),
  places_within (at + length text) texts end (omega (arith, length-append text (joined texts))),
)

pub spans_within : (uap subs : List Form) (bytes : List ℕ) (found : List Span × ℕ) → WellFormed uap subs → record_at uap subs bytes ≡ Ok found → All (λ span. span.at + span.len ≤ found.1) found.0
spans_within uap subs bytes found good e =
    let w = record_takes uap subs bytes found good e in
    let texts : List (List ℕ) = texts_at bytes found.0 in
    let size : length (take found.1 bytes) ≡ found.1 = length-take-le found.1 bytes w.inside in
    let sum : length (take found.1 bytes) ≡ length w.spelled.presence + length (joined texts) = ap length w.spelled.whole ∙ length-append w.spelled.presence (joined texts) in
    All-from_recursion (λ span. span.at + span.len ≤ found.1) found.0
    (subst (λ (spans : List Span). AllByRecursion (λ span. span.at + span.len ≤ found.1) spans) (sym w.in_order) (places_within (length w.spelled.presence) texts found.1 (omega arith)))

-- the item of FRN k + 1 is the text at place k
pub item_found : (uap subs : List Form) (bytes : List ℕ) (spans : List Span) (size : ℕ) → (w : IsWalk uap subs bytes spans size) → (k : ℕ) (d : Span) → k < length uap
    → Stands (Item subs) (is_named w.spelled.presence (k + 1)) (get_or uap k Spare) (take (get_or spans k d).len (drop (get_or spans k d).at bytes))
item_found uap subs bytes spans size w k d inside =
    let read : List ℕ = take (get_or spans k d).len (drop (get_or spans k d).at bytes) in
    let count : length (texts_at bytes spans) ≡ length uap = w.spelled.count in
    let same : get_or (texts_at bytes spans) k [] ≡ read =
    get_or-map (λ span. take span.len (drop span.at bytes)) spans k d [] (omega (arith, length-map spans (λ span. take span.len (drop span.at bytes)))) in
    subst (λ (text : List ℕ). Stands (Item subs) (is_named w.spelled.presence (k + 1)) (get_or uap k Spare) text) same (w.spelled.each k inside)
