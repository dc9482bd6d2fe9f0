-- Of each track the highest record, in key order: what is found at a key, and that the keys rise.
use Rattle.std.proofs.Common.{◌≡◌, Bool, true, false, cond, ◌||◌, ◌&&◌, List, [], ◌∷◌, Option, Some, None, T, refl, ap, sym, subst, ◌∙◌}
use Rattle.std.specs.Prelude.{filter, fold}
use Rattle.std.specs.List.{AllByRecursion, cons_option, filter_map, list_any}
use Rattle.std.specs.List.Sorted.{IsStrictlySortedBy}
use Rattle.std.specs.declared.cmp.Ordering.{Ordering}
use Rattle.std.specs.declared.cmp.Ordering.TheVariants.{Less, Equal, Greater}
use Rattle.std.specs.Ordering.{eq_by_cmp, is_eq, is_lt, match_ordering, ordering_reverse}
use Rattle.std.specs.Cmp.{eq_by_cmp_equiv}
use Rattle.std.proofs.lemmas.Map.Entries.{lookup-filter-values, option_filter}
use Rattle.std.proofs.lemmas.Map.Keys.{IsDistinct-from_sorted}
use Rattle.std.specs.BTreeSet.{insert_key}
use Rattle.std.specs.BTreeMap.{is_at}
use Rattle.std.specs.Map.{keys_of as keys_in, lookup}
use Rattle.std.specs.FinMap.Entries.{below_all, find as finmap_find, is_sorted, same_entries}
use Rattle.track_motion.specs.declared.rank.Stamped.{Stamped}
use Rattle.track_motion.specs.declared.track.TrackKey.{TrackKey}
use Rattle.track_motion.specs.Keys.{key_cmp}
use Rattle.track_table.specs.Kept.{entries_of}
use Rattle.track_table.specs.Tables.{highest, keys_of, newest, of_key}
use Rattle.track_table.proofs.Filters.{entries-filter, filter_none, filter_passing, find_all}
use Rattle.track_table.proofs.Orders.{key_equal, key_total}

-- what stands at a key
abbrev pub found : TrackKey → List (TrackKey × Stamped) → Option Stamped
found q es = lookup (is_at (key_cmp q)) es

pub equal_from : (o : Ordering) → is_eq o ≡ true → o ≡ Equal
equal_from Less e = absurd (cc)
equal_from Equal e = refl
equal_from Greater e = absurd (cc)

pub same_key : (q k : TrackKey) → is_eq (key_cmp q k) ≡ true → q ≡ k
same_key q k e = key_equal q k (equal_from (key_cmp q k) e)

-- ---- which keys there are

same_twice : (a b : Bool) → (a || b) ≡ (a || (a || b))
same_twice true b = refl
same_twice false b = refl

either_first : (a b c : Bool) → (a || (b || c)) ≡ (b || (a || c))
either_first true true c = refl
either_first true false c = refl
either_first false b c = refl

any_insert_at : (q k x : TrackKey) (xs more : List TrackKey) (o : Ordering) → key_cmp k x ≡ o → list_any (is_at (key_cmp q)) more ≡ (is_eq (key_cmp q k) || list_any (is_at (key_cmp q)) xs) →
    list_any (is_at (key_cmp q)) (match_ordering o (k ∷ x ∷ xs) (x ∷ xs) (x ∷ more)) ≡ (is_eq (key_cmp q k) || (is_eq (key_cmp q x) || list_any (is_at (key_cmp q)) xs))
any_insert_at q k x xs more Less at rest = refl
any_insert_at q k x xs more Equal at rest =
    rw (key_equal k x at) (same_twice (is_eq (key_cmp q x)) (list_any (is_at (key_cmp q)) xs))
any_insert_at q k x xs more Greater at rest =
    ap (λ b. is_eq (key_cmp q x) || b) rest ∙ either_first (is_eq (key_cmp q x)) (is_eq (key_cmp q k)) (list_any (is_at (key_cmp q)) xs)

any_insert : (q k : TrackKey) (keys : List TrackKey) → list_any (is_at (key_cmp q)) (insert_key key_cmp keys k) ≡ (is_eq (key_cmp q k) || list_any (is_at (key_cmp q)) keys)
any_insert q k [] = refl
any_insert q k (x ∷ xs) = any_insert_at q k x xs (insert_key key_cmp xs k) (key_cmp k x) refl (any_insert q k xs)

abbrev with_key : List TrackKey → Stamped → List TrackKey
with_key keys r = insert_key key_cmp keys r.track.key

regrouped : (a b c : Bool) → ((a || b) || c) ≡ (b || (a || c))
regrouped true true c = refl
regrouped true false c = refl
regrouped false b c = refl

any_keys : (q : TrackKey) (keys : List TrackKey) (records : List Stamped) →
    list_any (is_at (key_cmp q)) (fold with_key keys records) ≡ (list_any (is_at (key_cmp q)) keys || list_any (λ r. eq_by_cmp key_cmp q r.track.key) records)
any_keys q keys [] = elim (list_any (is_at (key_cmp q)) keys) as (λ b. b ≡ (b || false)) [ true ↦ refl | false ↦ refl ]
any_keys q keys (r ∷ rs) =
    any_keys q (with_key keys r) rs
    ∙ ap (λ b. b || list_any (λ s. eq_by_cmp key_cmp q s.track.key) rs) (any_insert q r.track.key keys)
    ∙ regrouped (is_eq (key_cmp q r.track.key)) (list_any (is_at (key_cmp q)) keys) (list_any (λ s. eq_by_cmp key_cmp q s.track.key) rs)

-- ---- what is found at a key

abbrev pub Tells : (TrackKey → Option Stamped) → Type 0
Tells f = (k : TrackKey) (r : Stamped) → f k ≡ Some r → r.track.key ≡ k

cond_same : (b : Bool) (o : Option Stamped) → cond b o o ≡ o
cond_same true o = refl
cond_same false o = refl

found_step : (f : TrackKey → Option Stamped) → Tells f → (q k : TrackKey) (rest : List Stamped) (any : Bool) (o : Option Stamped) (b : Bool) → f k ≡ o → is_eq (key_cmp q k) ≡ b →
    found q (entries_of rest) ≡ cond any (f q) None → found q (entries_of (cons_option o rest)) ≡ cond (b || any) (f q) None
found_step f tells q k rest any None true at_o at_b again =
    let none : f q ≡ None = ap f (same_key q k at_b) ∙ at_o in
    again ∙ ap (λ o. cond any o None) none ∙ cond_same any None ∙ sym none
found_step f tells q k rest any None false at_o at_b again = again
found_step f tells q k rest any (Some r) true at_o at_b again =
    let here : is_eq (key_cmp q r.track.key) ≡ true = ap (λ x. is_eq (key_cmp q x)) (tells k r at_o) ∙ at_b in
    rw here (sym (ap f (same_key q k at_b) ∙ at_o))
found_step f tells q k rest any (Some r) false at_o at_b again =
    let elsewhere : is_eq (key_cmp q r.track.key) ≡ false = ap (λ x. is_eq (key_cmp q x)) (tells k r at_o) ∙ at_b in
    rw elsewhere again

found_keys : (f : TrackKey → Option Stamped) → Tells f → (q : TrackKey) (keys : List TrackKey) → found q (entries_of (filter_map f keys)) ≡ cond (list_any (is_at (key_cmp q)) keys) (f q) None
found_keys f tells q [] = refl
found_keys f tells q (k ∷ ks) = found_step f tells q k (filter_map f ks) (list_any (is_at (key_cmp q)) ks) (f k) (is_eq (key_cmp q k)) refl refl (found_keys f tells q ks)

abbrev pub highest_at : List Stamped → TrackKey → Option Stamped
highest_at records key = highest (of_key key records)

pub highest_tells : (records : List Stamped) → Tells (highest_at records)
highest_tells records k r is =
    sym (same_key k r.track.key (find_all (λ (s : Stamped). eq_by_cmp key_cmp k s.track.key ≡ true) _ (of_key k records) r (filter_passing (λ (s : Stamped). eq_by_cmp key_cmp k s.track.key) records) is))

only_told : (records : List Stamped) (q : TrackKey) (any : Bool) → list_any (λ r. eq_by_cmp key_cmp q r.track.key) records ≡ any → cond any (highest_at records q) None ≡ highest_at records q
only_told records q true at = refl
only_told records q false at = sym (ap highest (filter_none (λ (r : Stamped). eq_by_cmp key_cmp q r.track.key) records at))

-- at each key stands the highest of its records
pub found_newest : (q : TrackKey) (records : List Stamped) → found q (entries_of (newest records)) ≡ highest (of_key q records)
found_newest q records =
    found_keys (highest_at records) (highest_tells records) q (keys_of records)
    ∙ ap (λ b. cond b (highest_at records q) None) (any_keys q [] records)
    ∙ only_told records q (list_any (λ r. eq_by_cmp key_cmp q r.track.key) records) refl

-- ---- the keys rise

abbrev AreAbove : TrackKey → List TrackKey → Type 0
AreAbove x keys = AllByRecursion (λ y. key_cmp x y ≡ Less) keys

above_insert_at : (y k x : TrackKey) (xs more : List TrackKey) (o : Ordering) → key_cmp y k ≡ Less → AreAbove y (x ∷ xs) → AreAbove y more →
    AreAbove y (match_ordering o (k ∷ x ∷ xs) (x ∷ xs) (x ∷ more))
above_insert_at y k x xs more Less below all rest = (below, all)
above_insert_at y k x xs more Equal below all rest = all
above_insert_at y k x xs more Greater below all rest = (all.0, rest)

above_insert : (y k : TrackKey) (keys : List TrackKey) → key_cmp y k ≡ Less → AreAbove y keys → AreAbove y (insert_key key_cmp keys k)
above_insert y k [] below all = (below, tt)
above_insert y k (x ∷ xs) below all = above_insert_at y k x xs (insert_key key_cmp xs k) (key_cmp k x) below all (above_insert y k xs below all.1)

above_lower : (x y : TrackKey) (keys : List TrackKey) → key_cmp x y ≡ Less → AreAbove y keys → AreAbove x keys
above_lower x y [] below all = tt
above_lower x y (k ∷ ks) below all = (key_total.trans x y k below all.0, above_lower x y ks below all.1)

rise_insert_at : (k x : TrackKey) (xs more : List TrackKey) (o : Ordering) → key_cmp k x ≡ o → IsStrictlySortedBy key_cmp (x ∷ xs) → IsStrictlySortedBy key_cmp more → (key_cmp x k ≡ Less → AreAbove x more) →
    IsStrictlySortedBy key_cmp (match_ordering o (k ∷ x ∷ xs) (x ∷ xs) (x ∷ more))
unfolding IsStrictlySortedBy
rise_insert_at k x xs more Less at up rest above = ((at, above_lower k x xs at up.0), up)
rise_insert_at k x xs more Equal at up rest above = up
rise_insert_at k x xs more Greater at up rest above = (above (key_total.antisymm x k ∙ ap ordering_reverse at), rest)

pub rise_insert : (k : TrackKey) (keys : List TrackKey) → IsStrictlySortedBy key_cmp keys → IsStrictlySortedBy key_cmp (insert_key key_cmp keys k)
unfolding IsStrictlySortedBy
rise_insert k [] up = (tt, tt)
rise_insert k (x ∷ xs) up =
    rise_insert_at k x xs (insert_key key_cmp xs k) (key_cmp k x) refl up (rise_insert k xs up.1) (λ below. above_insert x k xs below up.0)

rise_keys : (keys : List TrackKey) (records : List Stamped) → IsStrictlySortedBy key_cmp keys → IsStrictlySortedBy key_cmp (fold with_key keys records)
rise_keys keys [] up = up
rise_keys keys (r ∷ rs) up = rise_keys (with_key keys r) rs (rise_insert r.track.key keys up)

pub none_rise : IsStrictlySortedBy key_cmp []
unfolding IsStrictlySortedBy
none_rise = tt

above_entries_at : (f : TrackKey → Option Stamped) → Tells f → (y k : TrackKey) (rest : List Stamped) (o : Option Stamped) → f k ≡ o → key_cmp y k ≡ Less →
    AreAbove y (keys_in (entries_of rest)) → AreAbove y (keys_in (entries_of (cons_option o rest)))
above_entries_at f tells y k rest None at below all = all
above_entries_at f tells y k rest (Some r) at below all = (rw (tells k r at) below, all)

above_entries : (f : TrackKey → Option Stamped) → Tells f → (y : TrackKey) (keys : List TrackKey) → AreAbove y keys → AreAbove y (keys_in (entries_of (filter_map f keys)))
above_entries f tells y [] all = tt
above_entries f tells y (k ∷ ks) all = above_entries_at f tells y k (filter_map f ks) (f k) refl all.0 (above_entries f tells y ks all.1)

rise_entries_at : (f : TrackKey → Option Stamped) → Tells f → (k : TrackKey) (rest : List Stamped) (o : Option Stamped) → f k ≡ o → AreAbove k (keys_in (entries_of rest)) →
    IsStrictlySortedBy key_cmp (keys_in (entries_of rest)) → IsStrictlySortedBy key_cmp (keys_in (entries_of (cons_option o rest)))
unfolding IsStrictlySortedBy
rise_entries_at f tells k rest None at above up = up
rise_entries_at f tells k rest (Some r) at above up = (rw (tells k r at) above, up)

rise_entries : (f : TrackKey → Option Stamped) → Tells f → (keys : List TrackKey) → IsStrictlySortedBy key_cmp keys → IsStrictlySortedBy key_cmp (keys_in (entries_of (filter_map f keys)))
unfolding IsStrictlySortedBy
rise_entries f tells [] up = tt
rise_entries f tells (k ∷ ks) up = rise_entries_at f tells k (filter_map f ks) (f k) refl (above_entries f tells k ks up.0) (rise_entries f tells ks up.1)

pub rise_newest : (records : List Stamped) → IsStrictlySortedBy key_cmp (keys_in (entries_of (newest records)))
rise_newest records = rise_entries (highest_at records) (highest_tells records) (keys_of records) (rise_keys [] records none_rise)

above_kept_at : (y : TrackKey) (e : TrackKey × Stamped) (es : List (TrackKey × Stamped)) (b : Bool) → key_cmp y e.0 ≡ Less → AreAbove y (keys_in es) → AreAbove y (keys_in (cond b (e ∷ es) es))
above_kept_at y e es true below all = (below, all)
above_kept_at y e es false below all = all

above_kept : (p : TrackKey × Stamped → Bool) (y : TrackKey) (es : List (TrackKey × Stamped)) → AreAbove y (keys_in es) → AreAbove y (keys_in (filter p es))
above_kept p y [] all = tt
above_kept p y (e ∷ es) all = above_kept_at y e (filter p es) (p e) all.0 (above_kept p y es all.1)

rise_kept_at : (e : TrackKey × Stamped) (es : List (TrackKey × Stamped)) (b : Bool) → AreAbove e.0 (keys_in es) → IsStrictlySortedBy key_cmp (keys_in es) → IsStrictlySortedBy key_cmp (keys_in (cond b (e ∷ es) es))
unfolding IsStrictlySortedBy
rise_kept_at e es true above up = (above, up)
rise_kept_at e es false above up = up

-- so do those of the entries that pass a test
pub rise_kept : (p : TrackKey × Stamped → Bool) (es : List (TrackKey × Stamped)) → IsStrictlySortedBy key_cmp (keys_in es) → IsStrictlySortedBy key_cmp (keys_in (filter p es))
unfolding IsStrictlySortedBy
rise_kept p [] up = tt
rise_kept p (e ∷ es) up = rise_kept_at e (filter p es) (p e) (above_kept p e.0 es up.0) (rise_kept p es up.1)

pub rise_filter : (p : Stamped → Bool) (xs : List Stamped) → IsStrictlySortedBy key_cmp (keys_in (entries_of xs)) → IsStrictlySortedBy key_cmp (keys_in (entries_of (filter p xs)))
rise_filter p xs up = subst (λ (es : List (TrackKey × Stamped)). IsStrictlySortedBy key_cmp (keys_in es)) (entries-filter p xs) (rise_kept (λ e. p e.1) (entries_of xs) up)

-- ---- entries whose keys rise are known by what is found in them

finmap_found : (q : TrackKey) (es : List (TrackKey × Stamped)) → finmap_find key_cmp q es ≡ found q es
finmap_found q [] = refl
finmap_found q (e ∷ es) = ap (cond (is_eq (key_cmp q e.0)) (Some e.1)) (finmap_found q es)

both : (a b : Bool) → a ≡ true → T b → T (a && b)
both a b one two = rw one two

all_below : (x : TrackKey) (es : List (TrackKey × Stamped)) → AreAbove x (keys_in es) → T (below_all key_cmp x es)
all_below x [] above = tt
all_below x (e ∷ es) above = both (is_lt (key_cmp x e.0)) (below_all key_cmp x es) (ap is_lt above.0) (all_below x es above.1)

both_hold : (a b : Bool) → T a → T b → T (a && b)
both_hold true b one two = two
both_hold false b one two = absurd one

are_sorted : (es : List (TrackKey × Stamped)) → IsStrictlySortedBy key_cmp (keys_in es) → T (is_sorted key_cmp es)
unfolding IsStrictlySortedBy
are_sorted [] up = tt
are_sorted (e ∷ es) up = both_hold (below_all key_cmp e.0 es) (is_sorted key_cmp es) (all_below e.0 es up.0) (are_sorted es up.1)

pub entries_known : (es fs : List (TrackKey × Stamped)) → IsStrictlySortedBy key_cmp (keys_in es) → IsStrictlySortedBy key_cmp (keys_in fs) → ((q : TrackKey) → found q es ≡ found q fs) → es ≡ fs
entries_known es fs up_es up_fs same =
    same_entries key_cmp key_total key_equal es fs (are_sorted es up_es) (are_sorted fs up_fs) (λ q. finmap_found q es ∙ same q ∙ sym (finmap_found q fs))

-- at each key stands the highest of its records, where that passes a test
pub found_filter : (p : Stamped → Bool) (q : TrackKey) (records : List Stamped) → found q (entries_of (filter p (newest records))) ≡ option_filter p (highest (of_key q records))
found_filter p q records =
    ap (found q) (sym (entries-filter p (newest records)))
    ∙ lookup-filter-values (eq_by_cmp_equiv key_total) p q (entries_of (newest records)) (IsDistinct-from_sorted key_cmp (keys_in (entries_of (newest records))) (rise_newest records))
    ∙ ap (option_filter p) (found_newest q records)
