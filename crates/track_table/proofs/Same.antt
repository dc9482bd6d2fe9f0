-- Tables of the same records.
use Rattle.std.proofs.Common.{◌≡◌, ℕ, zero, suc, ◌≤◌, ◌⊎◌, inl, inr, Bool, true, false, cond, nat_le, List, [], ◌∷◌, Option, Some, None, ℤ, refl, ap, sym, ◌∙◌, subst, arith}
use Rattle.std.specs.Prelude.{filter}
use Rattle.std.specs.List.{Contains}
use Rattle.std.specs.Map.{values_of}
use Rattle.std.specs.Ordering.{eq_by_cmp}
use Rattle.std.proofs.lemmas.List.Elements.{All-contains, All-contains_itself, All-filter, All-weaker, Contains-append_right, filter_passes, recursion_from_All}
use Rattle.std.proofs.lemmas.Map.Entries.{option_filter}
use Rattle.track_motion.specs.declared.rank.Stamped.{Stamped}
use Rattle.track_motion.specs.Keys.{key_cmp}
use Rattle.track_motion.specs.Ranks.{outranks}
use Rattle.track_table.specs.Kept.{AreDue, entries_of}
use Rattle.track_table.specs.Order.{AreRanked, AreSame}
use Rattle.track_table.specs.Tables.{due, highest, is_row, newest, of_key, table}
use Rattle.track_table.specs.Times.{cycle_time}
use Rattle.track_table.proofs.Filters.{filter_all, values-entries}
use Rattle.track_table.proofs.Highest.{highest_none}
use Rattle.track_table.proofs.Newest.{entries_known, found_filter, rise_filter, rise_newest}
use Rattle.track_table.proofs.TableRows.{highest_is}

-- ---- what is in a list

-- what is in a list is its first element or in the rest
pub first_or_later : {X : Type 0} (x : X) (xs : List X) (r : X) → Contains (x ∷ xs) r → (x ≡ r) ⊎ Contains xs r
first_or_later x xs r (zero, within, is) = inl is
first_or_later x xs r (suc k, within, is) = inr (k, omega arith, is)

pub in_none : {X : Type 0} (r : X) → Contains [] r → ⊥
in_none r has = let below = has.1 in omega arith

stays_at : {X : Type 0} (p : X → Bool) (x : X) (ys : List X) (r : X) (b : Bool) → p x ≡ b → p r ≡ true → (x ≡ r) ⊎ Contains ys r → Contains (cond b (x ∷ ys) ys) r
stays_at p x ys r true at passes (inl same) = (0, omega arith, same)
stays_at p x ys r true at passes (inr has) = Contains-append_right (x ∷ []) ys r has
stays_at p x ys r false at passes (inl same) = let fails = ap p same in absurd (cc)
stays_at p x ys r false at passes (inr has) = has

stays_after : {X : Type 0} (p : X → Bool) (x : X) (xs : List X) (r : X) → p r ≡ true → (Contains xs r → Contains (filter p xs) r) → (x ≡ r) ⊎ Contains xs r → Contains (filter p (x ∷ xs)) r
stays_after p x xs r passes again (inl same) = stays_at p x (filter p xs) r (p x) refl passes (inl same)
stays_after p x xs r passes again (inr has) = stays_at p x (filter p xs) r (p x) refl passes (inr (again has))

-- what is in a list and passes a test is in its filter
stays : {X : Type 0} (p : X → Bool) (xs : List X) (r : X) → p r ≡ true → Contains xs r → Contains (filter p xs) r
stays p [] r passes has = absurd (in_none r has)
stays p (x ∷ xs) r passes has = stays_after p x xs r passes (stays p xs r passes) (first_or_later x xs r has)

-- what is in a filter is in the list and passes the test
was_in : {X : Type 0} (p : X → Bool) (xs : List X) (r : X) → Contains (filter p xs) r → Contains xs r
was_in p xs r has = All-contains (Contains xs) (filter p xs) r (All-filter p (Contains xs) xs (All-contains_itself xs)) has

passes_in : {X : Type 0} (p : X → Bool) (xs : List X) (r : X) → Contains (filter p xs) r → p r ≡ true
passes_in p xs r has = All-contains (λ x. p x ≡ true) (filter p xs) r (filter_passes p xs) has

-- ---- what some of the records have of all

ranked_filter : (p : Stamped → Bool) (xs : List Stamped) → AreRanked xs → AreRanked (filter p xs)
ranked_filter p xs ranked = λ a b has_a has_b ab ba. ranked a b (was_in p xs a has_a) (was_in p xs b has_b) ab ba

same_filter : (p : Stamped → Bool) (xs ys : List Stamped) → AreSame xs ys → AreSame (filter p xs) (filter p ys)
same_filter p xs ys same = record {
  each = λ r has. stays p ys r (passes_in p xs r has) (same.each r (was_in p xs r has));
  all = λ r has. stays p xs r (passes_in p ys r has) (same.all r (was_in p ys r has));
}

-- ---- the highest

none_in : (xs ys : List Stamped) (a : Stamped) → ((r : Stamped) → Contains xs r → Contains ys r) → highest xs ≡ Some a → highest ys ≡ None → ⊥
none_in xs ys a each is none = in_none a (subst (λ (rs : List Stamped). Contains rs a) (highest_none ys none) (each a (highest_is xs a is).one))

highest_same_at : (xs ys : List Stamped) (one other : Option Stamped) → AreRanked xs → AreSame xs ys → highest xs ≡ one → highest ys ≡ other → one ≡ other
highest_same_at xs ys None None ranked same at_xs at_ys = refl
highest_same_at xs ys None (Some b) ranked same at_xs at_ys = absurd (none_in ys xs b same.all at_ys at_xs)
highest_same_at xs ys (Some a) None ranked same at_xs at_ys = absurd (none_in xs ys a same.each at_xs at_ys)
highest_same_at xs ys (Some a) (Some b) ranked same at_xs at_ys =
    let top_a = highest_is xs a at_xs in
    let top_b = highest_is ys b at_ys in
    let b_in = same.all b top_b.one in
    let ab = All-contains (λ other. outranks other b ≡ false) ys a top_b.best (same.each a top_a.one) in
    let ba = All-contains (λ other. outranks other a ≡ false) xs b top_a.best b_in in
    ap Some (ranked a b top_a.one b_in ab ba)

-- of the same records the same one is the highest
highest_same : (xs ys : List Stamped) → AreRanked xs → AreSame xs ys → highest xs ≡ highest ys
highest_same xs ys ranked same = highest_same_at xs ys (highest xs) (highest ys) ranked same refl refl

-- ---- the table

rows_same : (p : Stamped → Bool) (xs ys : List Stamped) → AreRanked xs → AreSame xs ys → entries_of (filter p (newest xs)) ≡ entries_of (filter p (newest ys))
rows_same p xs ys ranked same =
    entries_known (entries_of (filter p (newest xs))) (entries_of (filter p (newest ys))) (rise_filter p (newest xs) (rise_newest xs)) (rise_filter p (newest ys) (rise_newest ys))
    (λ q.
    let mine : Stamped → Bool = λ r. eq_by_cmp key_cmp q r.track.key in
    found_filter p q xs
    ∙ ap (option_filter p) (highest_same (of_key q xs) (of_key q ys) (ranked_filter mine xs ranked) (same_filter mine xs ys same))
    ∙ sym (found_filter p q ys))

pub tables_same : (start period timeout : ℤ) (k : ℕ) (records others : List Stamped) → AreRanked records → AreSame (due k records) (due k others) →
    table start period timeout k records ≡ table start period timeout k others
tables_same start period timeout k records others ranked same =
    let rows = rows_same (is_row (cycle_time start period k) timeout) (due k records) (due k others) (ranked_filter (λ r. nat_le r.window k) records ranked) same in
    sym (values-entries (table start period timeout k records)) ∙ ap values_of rows ∙ values-entries (table start period timeout k others)

-- ---- records that are all due

le_true : (m n : ℕ) → m ≤ n → nat_le m n ≡ true
le_true m n below = grind arith

pub all_due : (k : ℕ) (records : List Stamped) → AreDue k records → due k records ≡ records
all_due k records are =
    filter_all (λ r. nat_le r.window k) records
    (recursion_from_All (λ r. nat_le r.window k ≡ true) records (All-weaker (λ r. r.window ≤ k) (λ r. nat_le r.window k ≡ true) (λ r told. le_true r.window k told) records are))
