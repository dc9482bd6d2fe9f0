-- The rows of a table.
use Rattle.std.proofs.Common.{◌≡◌, ◌≤◌, ℕ, Bool, true, false, cond, not, nat_le, List, [], ◌∷◌, map, Option, Some, None, ℤ, ◌≤ℤ◌, ◌-ℤ◌, refl, ap, ◌∙◌, subst, arith}
use Rattle.std.specs.Prelude.{filter}
use Rattle.std.specs.List.{All, AllByRecursion, Contains, cons_option, filter_map}
use Rattle.std.specs.List.Sorted.{IsStrictlySortedBy}
use Rattle.std.specs.Map.{keys_of as keys_in}
use Rattle.std.specs.Ordering.{eq_by_cmp}
use Rattle.std.proofs.lemmas.Bool.{and_parts}
use Rattle.std.proofs.lemmas.Int.{ints}
use Rattle.std.proofs.lemmas.List.Elements.{All-contains_itself, All-from_recursion, recursion_from_All}
use Rattle.std.proofs.lemmas.Map.Entries.{option_filter}
use Rattle.std.proofs.lemmas.Map.Made.{Contains-values_of}
use Rattle.std.proofs.lemmas.Map.Views.{Contains-from_lookup}
use Rattle.track_motion.specs.declared.rank.Stamped.{Stamped}
use Rattle.track_motion.specs.declared.track.TrackKey.{TrackKey}
use Rattle.track_motion.specs.Keys.{key_cmp}
use Rattle.track_motion.specs.Ranks.{outranks}
use Rattle.track_table.specs.Kept.{entries_of}
use Rattle.track_table.specs.Tables.{IsHighest, IsRowOf, due, highest, is_recent, is_row, keys_of, newest, of_key, table}
use Rattle.track_table.specs.Times.{cycle_time}
use Rattle.track_table.proofs.Filters.{find_all, values-entries}
use Rattle.track_table.proofs.Highest.{highest_best}
use Rattle.track_table.proofs.Newest.{found, found_filter, highest_at, highest_tells, rise_filter, rise_newest, same_key, Tells}

-- ---- what holds of each element of a filter

both_at : (P : Stamped → Type 0) (p : Stamped → Bool) (x : Stamped) (xs : List Stamped) (b : Bool) → p x ≡ b → P x → AllByRecursion (λ y. P y × (p y ≡ true)) xs →
    AllByRecursion (λ y. P y × (p y ≡ true)) (cond b (x ∷ xs) xs)
both_at P p x xs true at here all = ((here, at), all)
both_at P p x xs false at here all = all

filter_both : (P : Stamped → Type 0) (p : Stamped → Bool) (xs : List Stamped) → AllByRecursion P xs → AllByRecursion (λ y. P y × (p y ≡ true)) (filter p xs)
filter_both P p [] all = tt
filter_both P p (x ∷ xs) all = both_at P p x (filter p xs) (p x) refl all.0 (filter_both P p xs all.1)

pub each_weaker : (P Q : Stamped → Type 0) → ((x : Stamped) → P x → Q x) → (xs : List Stamped) → AllByRecursion P xs → AllByRecursion Q xs
each_weaker P Q weaker [] all = tt
each_weaker P Q weaker (x ∷ xs) all = (weaker x all.0, each_weaker P Q weaker xs all.1)

each_itself : (xs : List Stamped) → AllByRecursion (Contains xs) xs
each_itself xs = recursion_from_All (Contains xs) xs (All-contains_itself xs)

-- ---- the highest is one of the records

pub highest_is : (records : List Stamped) (r : Stamped) → highest records ≡ Some r → IsHighest records r
highest_is records r is = record {
  one = find_all (Contains records) _ records r (each_itself records) is;
  best = All-from_recursion (λ other. outranks other r ≡ false) records (highest_best records r is);
}

-- ---- each row

abbrev Heads : List Stamped → Stamped → Type 0
Heads records r = highest (of_key r.track.key records) ≡ Some r

heads_at : (f : TrackKey → Option Stamped) → Tells f → (k : TrackKey) (rest : List Stamped) (o : Option Stamped) → f k ≡ o → AllByRecursion (λ r. f r.track.key ≡ Some r) rest →
    AllByRecursion (λ r. f r.track.key ≡ Some r) (cons_option o rest)
heads_at f tells k rest None at all = all
heads_at f tells k rest (Some r) at all = (ap f (tells k r at) ∙ at, all)

heads_in : (f : TrackKey → Option Stamped) → Tells f → (keys : List TrackKey) → AllByRecursion (λ r. f r.track.key ≡ Some r) (filter_map f keys)
heads_in f tells [] = tt
heads_in f tells (k ∷ ks) = heads_at f tells k (filter_map f ks) (f k) refl (heads_in f tells ks)

each_due : (k : ℕ) (records : List Stamped) (key : TrackKey) → AllByRecursion (λ r. Contains records r × (r.window ≤ k)) (of_key key (due k records))
each_due k records key =
    each_weaker (λ r. (Contains records r × (r.window ≤ k)) × (eq_by_cmp key_cmp key r.track.key ≡ true)) (λ r. Contains records r × (r.window ≤ k)) (λ r both. both.0) (of_key key (due k records))
    (filter_both (λ r. Contains records r × (r.window ≤ k)) (λ r. eq_by_cmp key_cmp key r.track.key) (due k records)
    (each_weaker (λ r. Contains records r × (nat_le r.window k ≡ true)) (λ r. Contains records r × (r.window ≤ k)) (λ r both. (both.0, let now = both.1 in grind arith)) (due k records)
    (filter_both (Contains records) (λ r. nat_le r.window k) records (each_itself records))))

not_true : (b : Bool) → not b ≡ true → b ≡ false
not_true true e = absurd (cc)
not_true false e = refl

recent_in_words : (time timeout : ℤ) (r : Stamped) → is_recent time timeout r ≡ true → (time -ℤ r.at) ≤ℤ timeout
recent_in_words time timeout r recent = grind (arith, ints)

row_is : (start period timeout : ℤ) (k : ℕ) (records : List Stamped) (r : Stamped) → Heads (due k records) r → is_row (cycle_time start period k) timeout r ≡ true → IsRowOf start period timeout k records r
row_is start period timeout k records r heads row =
    let mine = of_key r.track.key (due k records) in
    let one = find_all (λ s. Contains records s × (s.window ≤ k)) _ mine r (each_due k records r.track.key) heads in
    let parts = and_parts (not r.track.ended) (is_recent (cycle_time start period k) timeout r) row in
    record {
      one = one.0;
      told = one.1;
      best = (highest_is mine r heads).best;
      goes_on = not_true r.track.ended parts.0;
      recent = recent_in_words (cycle_time start period k) timeout r parts.1;
    }

pub rows_are : (start period timeout : ℤ) (k : ℕ) (records : List Stamped) → All (IsRowOf start period timeout k records) (table start period timeout k records)
rows_are start period timeout k records =
    let told = due k records in
    let row = is_row (cycle_time start period k) timeout in
    All-from_recursion (IsRowOf start period timeout k records) (table start period timeout k records)
    (each_weaker (λ r. Heads told r × (row r ≡ true)) (IsRowOf start period timeout k records) (λ r both. row_is start period timeout k records r both.0 both.1) (table start period timeout k records)
    (filter_both (Heads told) row (newest told) (heads_in (highest_at told) (highest_tells told) (keys_of told))))

-- ---- and in order

keys-entries : (xs : List Stamped) → keys_in (entries_of xs) ≡ map (λ r. r.track.key) xs
keys-entries [] = refl
keys-entries (x ∷ xs) = ap (λ ks. x.track.key ∷ ks) (keys-entries xs)

pub rows_rise : (start period timeout : ℤ) (k : ℕ) (records : List Stamped) → IsStrictlySortedBy key_cmp (map (λ r. r.track.key) (table start period timeout k records))
rows_rise start period timeout k records =
    subst (IsStrictlySortedBy key_cmp) (keys-entries (table start period timeout k records))
    (rise_filter (is_row (cycle_time start period k) timeout) (newest (due k records)) (rise_newest (due k records)))

-- ---- all rows

passed : (p : Stamped → Bool) (r : Stamped) → p r ≡ true → option_filter p (Some r) ≡ Some r
passed p r passes = rw passes refl

pub row_stands : (start period timeout : ℤ) (k : ℕ) (records : List Stamped) (r : Stamped) → Heads (due k records) r → is_row (cycle_time start period k) timeout r ≡ true →
    Contains (table start period timeout k records) r
row_stands start period timeout k records r heads row =
    let rows = table start period timeout k records in
    let p = is_row (cycle_time start period k) timeout in
    let at : found r.track.key (entries_of rows) ≡ Some r = found_filter p r.track.key (due k records) ∙ ap (option_filter p) heads ∙ passed p r row in
    subst (λ (xs : List Stamped). Contains xs r) (values-entries rows) (Contains-values_of (entries_of rows) r.track.key r (Contains-from_lookup same_key r.track.key r (entries_of rows) at))
