-- Entries in key order: what is found in them, and what an insertion, a filter and a sort make of them.
use Rattle.std.proofs.Common.{◌≡◌, ◌+◌, ◌<◌, Bool, true, false, cond, ◌&&◌, List, [], ◌∷◌, length, get_or, map, Option, Some, None, refl, ap, sym, subst, ◌∙◌, arith}
use Rattle.std.specs.Prelude.{filter}
use Rattle.std.specs.BTreeMap.{insert_entry}
use Rattle.std.specs.BTreeSet.{insert_key}
use Rattle.std.specs.Cmp.{eq_by_cmp_equiv, unsigned_ties}
use Rattle.std.specs.declared.cmp.Ordering.{Ordering}
use Rattle.std.specs.declared.cmp.Ordering.TheVariants.{Less, Equal, Greater}
use Rattle.std.specs.List.{AllByRecursion, IsDistinct}
use Rattle.std.specs.List.Sorted.{IsPermutation, IsSortedByKey, IsStrictlySortedBy}
use Rattle.std.specs.Map.{keys_of as keys_in, lookup, set_value, values_of}
use Rattle.std.specs.Ordering.{eq_by_cmp, is_eq, is_lt, match_ordering, nat_cmp, ordering_reverse, ordering_then}
use Rattle.std.proofs.Math.ListN.{get_or-map}
use Rattle.std.proofs.lemmas.List.{length-map}
use Rattle.std.proofs.lemmas.List.Sorted.{Contains-permutation, IsPermutation-map, IsPermutation-sym}
use Rattle.std.proofs.lemmas.Map.Entries.{lookup-filter-values, option_filter}
use Rattle.std.proofs.lemmas.Map.Keys.{IsDistinct-IsPermutation, IsDistinct-from_sorted, apart_from_distinct, sorted_from_all_adjacent}
use Rattle.std.proofs.lemmas.Map.Made.{IsDistinct-keys_filter, nil_from_lookup}
use Rattle.std.proofs.lemmas.Map.Views.{Contains-from_lookup, lookup-from_Contains}
use Rattle.indexmap.specs.IndexMap.{insert_entry as index_insert}
use Rattle.track_motion.specs.declared.rank.Stamped.{Stamped}
use Rattle.track_motion.specs.declared.track.TrackKey.{TrackKey}
use Rattle.track_motion.specs.Keys.{key_cmp}
use Rattle.track_table.specs.Kept.{entries_of}
use Rattle.track_table.specs.KeyOrder.{AreKeyed, in_key_order, key_eq}
use Rattle.track_table.proofs.Filters.{entries-filter, values-entries}
use Rattle.track_table.proofs.Newest.{entries_known, equal_from, found, none_rise, rise_insert, rise_kept, same_key}
use Rattle.track_table.proofs.Orders.{key_equal, key_total}

-- ---- keys whose fields are the same

then_eq : (a b : Ordering) → is_eq (ordering_then a b) ≡ (is_eq a && is_eq b)
then_eq Less b = refl
then_eq Equal b = refl
then_eq Greater b = refl

key_eq_is : (a b : TrackKey) → key_eq a b ≡ eq_by_cmp key_cmp a b
key_eq_is a b =
    (λ i. unsigned_ties a.sac b.sac i && (unsigned_ties a.sic b.sic i && unsigned_ties a.number b.number i))
    ∙ sym (then_eq (nat_cmp a.sac b.sac) (ordering_then (nat_cmp a.sic b.sic) (nat_cmp a.number b.number))
    ∙ ap (λ b'. is_eq (nat_cmp a.sac b.sac) && b') (then_eq (nat_cmp a.sic b.sic) (nat_cmp a.number b.number)))

-- are those that are equal in order
pub key_tests : key_eq ≡ eq_by_cmp key_cmp
key_tests = λ i a b. key_eq_is a b i

pub same_fields_key : (a b : TrackKey) → key_eq a b ≡ true → a ≡ b
same_fields_key a b is = same_key a b (sym (key_eq_is a b) ∙ is)

-- ---- an insertion

above_twice : (b : Bool) (v w : Stamped) (o : Option Stamped) → cond b (Some v) o ≡ cond b (Some v) (cond b (Some w) o)
above_twice true v w o = refl
above_twice false v w o = refl

exchanged : (a b : Bool) (v w : Stamped) (o : Option Stamped) → (a ≡ true → b ≡ true → ⊥) → cond a (Some w) (cond b (Some v) o) ≡ cond b (Some v) (cond a (Some w) o)
exchanged true true v w o apart = absurd (apart refl refl)
exchanged true false v w o apart = refl
exchanged false b v w o apart = refl

never_both : (q k x : TrackKey) → key_cmp k x ≡ Greater → is_eq (key_cmp q x) ≡ true → is_eq (key_cmp q k) ≡ true → ⊥
never_both q k x at one two =
    let same : Greater ≡ Equal = sym at ∙ ap (λ y. key_cmp y x) (sym (same_key q k two)) ∙ equal_from (key_cmp q x) one in
    cc

found_insert_at : (q k : TrackKey) (v : Stamped) (e : TrackKey × Stamped) (es more : List (TrackKey × Stamped)) (o : Ordering) → key_cmp k e.0 ≡ o →
    found q more ≡ cond (is_eq (key_cmp q k)) (Some v) (found q es) →
    found q (match_ordering o ((k, v) ∷ e ∷ es) ((e.0, v) ∷ es) (e ∷ more)) ≡ cond (is_eq (key_cmp q k)) (Some v) (found q (e ∷ es))
found_insert_at q k v e es more Less at rest = refl
found_insert_at q k v e es more Equal at rest =
    above_twice (is_eq (key_cmp q e.0)) v e.1 (found q es) ∙ ap (λ x. cond (is_eq (key_cmp q x)) (Some v) (found q (e ∷ es))) (sym (key_equal k e.0 at))
found_insert_at q k v e es more Greater at rest =
    ap (cond (is_eq (key_cmp q e.0)) (Some e.1)) rest
    ∙ exchanged (is_eq (key_cmp q e.0)) (is_eq (key_cmp q k)) v e.1 (found q es) (never_both q k e.0 at)

pub found_insert : (q k : TrackKey) (v : Stamped) (es : List (TrackKey × Stamped)) → found q (insert_entry key_cmp es k v) ≡ cond (is_eq (key_cmp q k)) (Some v) (found q es)
found_insert q k v [] = refl
found_insert q k v (e ∷ es) = found_insert_at q k v e es (insert_entry key_cmp es k v) (key_cmp k e.0) refl (found_insert q k v es)

keys_insert_at : (k : TrackKey) (v : Stamped) (e : TrackKey × Stamped) (es more : List (TrackKey × Stamped)) (o : Ordering) → keys_in more ≡ insert_key key_cmp (keys_in es) k →
    keys_in (match_ordering o ((k, v) ∷ e ∷ es) ((e.0, v) ∷ es) (e ∷ more)) ≡ match_ordering o (k ∷ e.0 ∷ keys_in es) (e.0 ∷ keys_in es) (e.0 ∷ insert_key key_cmp (keys_in es) k)
keys_insert_at k v e es more Less rest = refl
keys_insert_at k v e es more Equal rest = refl
keys_insert_at k v e es more Greater rest = ap (λ ks. e.0 ∷ ks) rest

keys_insert : (k : TrackKey) (v : Stamped) (es : List (TrackKey × Stamped)) → keys_in (insert_entry key_cmp es k v) ≡ insert_key key_cmp (keys_in es) k
keys_insert k v [] = refl
keys_insert k v (e ∷ es) = keys_insert_at k v e es (insert_entry key_cmp es k v) (key_cmp k e.0) (keys_insert k v es)

pub rise_entry : (k : TrackKey) (v : Stamped) (es : List (TrackKey × Stamped)) → IsStrictlySortedBy key_cmp (keys_in es) → IsStrictlySortedBy key_cmp (keys_in (insert_entry key_cmp es k v))
rise_entry k v es up = subst (IsStrictlySortedBy key_cmp) (sym (keys_insert k v es)) (rise_insert k (keys_in es) up)

-- ---- entries in key order

-- in key order the same is found at each key
pub found_order : (q : TrackKey) (es : List (TrackKey × Stamped)) → found q (in_key_order es) ≡ found q es
found_order q [] = refl
found_order q (e ∷ es) = found_insert q e.0 e.1 (in_key_order es) ∙ ap (cond (is_eq (key_cmp q e.0)) (Some e.1)) (found_order q es)

pub rise_order : (es : List (TrackKey × Stamped)) → IsStrictlySortedBy key_cmp (keys_in (in_key_order es))
rise_order [] = none_rise
rise_order (e ∷ es) = rise_entry e.0 e.1 (in_key_order es) (rise_order es)

-- entries whose keys rise are those in which the same is found in key order
order_known : (es fs : List (TrackKey × Stamped)) → IsStrictlySortedBy key_cmp (keys_in fs) → ((q : TrackKey) → found q es ≡ found q fs) → in_key_order es ≡ fs
order_known es fs up same = entries_known (in_key_order es) fs (rise_order es) up (λ q. found_order q es ∙ same q)

-- with one more record at its key
pub order_insert : (es fs : List (TrackKey × Stamped)) (k : TrackKey) (v : Stamped) → ((q : TrackKey) → found q fs ≡ cond (eq_by_cmp key_cmp k q) (Some v) (found q es)) →
    in_key_order fs ≡ insert_entry key_cmp (in_key_order es) k v
order_insert es fs k v holds =
    order_known fs (insert_entry key_cmp (in_key_order es) k v) (rise_entry k v (in_key_order es) (rise_order es))
    (λ q. holds q
    ∙ ap (λ b. cond b (Some v) (found q es)) ((eq_by_cmp_equiv key_total).symm k q)
    ∙ sym (found_insert q k v (in_key_order es) ∙ ap (cond (is_eq (key_cmp q k)) (Some v)) (found_order q es)))

-- what passes a test, in key order
pub order_filter : (p : Stamped → Bool) (es : List (TrackKey × Stamped)) → IsDistinct (eq_by_cmp key_cmp) (keys_in es) →
    in_key_order (filter (λ e. p e.1) es) ≡ filter (λ e. p e.1) (in_key_order es)
order_filter p es apart =
    let whole = in_key_order es in
    order_known (filter (λ e. p e.1) es) (filter (λ e. p e.1) whole) (rise_kept (λ e. p e.1) whole (rise_order es))
    (λ q. lookup-filter-values (eq_by_cmp_equiv key_total) p q es apart
    ∙ ap (option_filter p) (sym (found_order q es))
    ∙ sym (lookup-filter-values (eq_by_cmp_equiv key_total) p q whole (IsDistinct-from_sorted key_cmp (keys_in whole) (rise_order es))))

-- ---- records and their entries

values_at : (p : Stamped → Bool) (e : TrackKey × Stamped) (es : List (TrackKey × Stamped)) (rs : List Stamped) (b : Bool) → values_of es ≡ rs → values_of (cond b (e ∷ es) es) ≡ cond b (e.1 ∷ rs) rs
values_at p e es rs true same = ap (λ xs. e.1 ∷ xs) same
values_at p e es rs false same = same

values_filter : (p : Stamped → Bool) (es : List (TrackKey × Stamped)) → values_of (filter (λ e. p e.1) es) ≡ filter p (values_of es)
values_filter p [] = refl
values_filter p (e ∷ es) = values_at p e (filter (λ x. p x.1) es) (filter p (values_of es)) (p e.1) (values_filter p es)

abbrev AreOwn : List (TrackKey × Stamped) → Type 0
AreOwn es = AllByRecursion (λ e. e.1.track.key ≡ e.0) es

entries_values : (es : List (TrackKey × Stamped)) → AreOwn es → entries_of (values_of es) ≡ es
entries_values [] all = refl
entries_values (e ∷ es) all = λ i. (all.0 i, e.1) ∷ entries_values es all.1 i

own_insert_at : (e : TrackKey × Stamped) (es more : List (TrackKey × Stamped)) (k : TrackKey) (v : Stamped) (b : Bool) → key_eq k e.0 ≡ b → v.track.key ≡ k → AreOwn (e ∷ es) → AreOwn more →
    AreOwn (cond b ((e.0, v) ∷ es) (e ∷ more))
own_insert_at e es more k v true is at all rest = (at ∙ same_fields_key k e.0 is, all.1)
own_insert_at e es more k v false is at all rest = (all.0, rest)

pub own_insert : (k : TrackKey) (v : Stamped) (es : List (TrackKey × Stamped)) → v.track.key ≡ k → AreOwn es → AreOwn (index_insert key_eq es k v)
own_insert k v [] at all = (at, tt)
own_insert k v (e ∷ es) at all = own_insert_at e es (index_insert key_eq es k v) k v (key_eq k e.0) refl at all (own_insert k v es at all.1)

pub own_set : (k : TrackKey) (v : Stamped) (es : List (TrackKey × Stamped)) → v.track.key ≡ k → AreOwn es → AreOwn (set_value (key_eq k) es v)
own_set k v [] at all = tt
own_set k v (e ∷ es) at all = own_insert_at e es (set_value (key_eq k) es v) k v (key_eq k e.0) refl at all (own_set k v es at all.1)

own_kept_at : (e : TrackKey × Stamped) (es : List (TrackKey × Stamped)) (b : Bool) → e.1.track.key ≡ e.0 → AreOwn es → AreOwn (cond b (e ∷ es) es)
own_kept_at e es true own all = (own, all)
own_kept_at e es false own all = all

own_kept : (p : TrackKey × Stamped → Bool) (es : List (TrackKey × Stamped)) → AreOwn es → AreOwn (filter p es)
own_kept p [] all = tt
own_kept p (e ∷ es) all = own_kept_at e (filter p es) (p e) all.0 (own_kept p es all.1)

pub keyed_kept : (p : TrackKey × Stamped → Bool) (es : List (TrackKey × Stamped)) → AreKeyed es → AreKeyed (filter p es)
keyed_kept p es keyed = record { apart = IsDistinct-keys_filter (eq_by_cmp key_cmp) p es keyed.apart; own = own_kept p es keyed.own }

-- ---- records sorted by key

either_way : (o p : Option Stamped) → ((v : Stamped) → o ≡ Some v → p ≡ Some v) → ((v : Stamped) → p ≡ Some v → o ≡ Some v) → o ≡ p
either_way None None f g = refl
either_way None (Some v) f g = g v refl
either_way (Some v) p f g = sym (f v refl)

moved_found : (es fs : List (TrackKey × Stamped)) → IsPermutation es fs → IsDistinct (eq_by_cmp key_cmp) (keys_in fs) → (q : TrackKey) (v : Stamped) → found q es ≡ Some v → found q fs ≡ Some v
moved_found es fs moved apart q v is =
    lookup-from_Contains (eq_by_cmp_equiv key_total) q v fs apart (Contains-permutation es fs (q, v) moved (Contains-from_lookup {eq = eq_by_cmp key_cmp} same_key q v es is))

found_moved : (es fs : List (TrackKey × Stamped)) → IsPermutation es fs → IsDistinct (eq_by_cmp key_cmp) (keys_in es) → IsDistinct (eq_by_cmp key_cmp) (keys_in fs) → (q : TrackKey) → found q es ≡ found q fs
found_moved es fs moved apart_es apart_fs q =
    either_way (found q es) (found q fs) (moved_found es fs moved apart_fs q) (moved_found fs es (IsPermutation-sym es fs moved) apart_es q)

less_at : (o : Ordering) → is_lt (ordering_reverse o) ≡ false → is_eq o ≡ false → o ≡ Less
less_at Less not_above other = refl
less_at Equal not_above other = absurd (cc)
less_at Greater not_above other = absurd (cc)

less_from : (a b : TrackKey) → is_lt (key_cmp b a) ≡ false → eq_by_cmp key_cmp a b ≡ false → key_cmp a b ≡ Less
less_from a b not_above other = less_at (key_cmp a b) (ap is_lt (sym (key_total.antisymm b a)) ∙ not_above) other

keys_entries : (xs : List Stamped) → keys_in (entries_of xs) ≡ map (λ r. r.track.key) xs
keys_entries [] = refl
keys_entries (x ∷ xs) = ap (λ ks. x.track.key ∷ ks) (keys_entries xs)

rise_sorted : (xs : List Stamped) → IsSortedByKey (λ r. r.track.key) key_cmp xs → IsDistinct (eq_by_cmp key_cmp) (map (λ r. r.track.key) xs) → IsStrictlySortedBy key_cmp (map (λ r. r.track.key) xs)
rise_sorted [] sorted apart = none_rise
rise_sorted (x ∷ xs) sorted apart =
    let rows : List Stamped = x ∷ xs in
    let key : Stamped → TrackKey = λ r. r.track.key in
    let keys = map key rows in
    sorted_from_all_adjacent key_total keys (key x)
    (λ k l.
    let within : k + 1 < length rows = rw length-map at l in
    let ordered : is_lt (key_cmp (get_or keys (k + 1) (key x)) (get_or keys k (key x))) ≡ false =
    ap (λ y. is_lt (key_cmp y (get_or keys k (key x)))) (get_or-map key rows (k + 1) x) ∙ ap (λ y. is_lt (key_cmp (key (get_or rows (k + 1) x)) y)) (get_or-map key rows k x) ∙ sorted k x (omega arith) within in
    less_from (get_or keys k (key x)) (get_or keys (k + 1) (key x)) ordered (apart_from_distinct (eq_by_cmp key_cmp) keys k (k + 1) (key x) apart (omega arith) l))

-- the records that pass a test, sorted by key, are those in key order that pass
pub sorted_rows : (p : Stamped → Bool) (es : List (TrackKey × Stamped)) (xs : List Stamped) → AreKeyed es → IsPermutation (filter p (values_of es)) xs → IsSortedByKey (λ r. r.track.key) key_cmp xs →
    xs ≡ filter p (values_of (in_key_order es))
sorted_rows p es xs keyed moves sorted =
    let few : List (TrackKey × Stamped) = filter (λ e. p e.1) es in
    let told : few ≡ entries_of (filter p (values_of es)) = ap (filter (λ (e : TrackKey × Stamped). p e.1)) (sym (entries_values es keyed.own)) ∙ entries-filter p (values_of es) in
    let apart : IsDistinct (eq_by_cmp key_cmp) (keys_in few) = IsDistinct-keys_filter (eq_by_cmp key_cmp) (λ (e : TrackKey × Stamped). p e.1) es keyed.apart in
    let moved : IsPermutation few (entries_of xs) = subst (λ (fs : List (TrackKey × Stamped)). IsPermutation fs (entries_of xs)) (sym told) (IsPermutation-map (λ (r : Stamped). (r.track.key, r)) (filter p (values_of es)) xs moves) in
    let apart_after : IsDistinct (eq_by_cmp key_cmp) (keys_in (entries_of xs)) =
    IsDistinct-IsPermutation (eq_by_cmp key_cmp) (eq_by_cmp_equiv key_total).symm (keys_in few) (keys_in (entries_of xs)) (IsPermutation-map (λ (e : TrackKey × Stamped). e.0) few (entries_of xs) moved) apart in
    let up : IsStrictlySortedBy key_cmp (keys_in (entries_of xs)) =
    subst (IsStrictlySortedBy key_cmp) (sym (keys_entries xs)) (rise_sorted xs sorted (subst (IsDistinct (eq_by_cmp key_cmp)) (keys_entries xs) apart_after)) in
    sym (values-entries xs)
    ∙ ap values_of (sym (order_known few (entries_of xs) up (found_moved few (entries_of xs) moved apart apart_after)) ∙ order_filter p es keyed.apart)
    ∙ values_filter p (in_key_order es)

none_of : (es : List (TrackKey × Stamped)) → values_of es ≡ [] → es ≡ []
none_of [] is = refl
none_of (e ∷ es) is = absurd (cc)

-- where none in key order passes, none does
pub none_pass : (p : Stamped → Bool) (es : List (TrackKey × Stamped)) → AreKeyed es → filter p (values_of (in_key_order es)) ≡ [] → filter p (values_of es) ≡ []
none_pass p es keyed none =
    let few : List (TrackKey × Stamped) = filter (λ e. p e.1) es in
    let empty : in_key_order few ≡ [] = order_filter p es keyed.apart ∙ none_of (filter (λ e. p e.1) (in_key_order es)) (values_filter p (in_key_order es) ∙ none) in
    sym (values_filter p es) ∙ ap values_of (nil_from_lookup (eq_by_cmp_equiv key_total) few (λ q. sym (found_order q few) ∙ ap (found q) empty))

-- ---- what the table of records does

pub apart_by_order : (es : List (TrackKey × Stamped)) → IsDistinct key_eq (keys_in es) → IsDistinct (eq_by_cmp key_cmp) (keys_in es)
apart_by_order es apart = subst (λ (eq : TrackKey → TrackKey → Bool). IsDistinct eq (keys_in es)) key_tests apart

pub keyed_inserted : (s : Stamped) (es fs : List (TrackKey × Stamped)) → fs ≡ index_insert key_eq es s.track.key s → IsDistinct key_eq (keys_in fs) → AreKeyed es → AreKeyed fs
keyed_inserted s es fs is apart keyed = record { apart = apart_by_order fs apart; own = subst AreOwn (sym is) (own_insert s.track.key s es refl keyed.own) }

pub keyed_written : (s : Stamped) (es fs : List (TrackKey × Stamped)) → fs ≡ set_value (key_eq s.track.key) es s → IsDistinct key_eq (keys_in fs) → AreKeyed es → AreKeyed fs
keyed_written s es fs is apart keyed = record { apart = apart_by_order fs apart; own = subst AreOwn (sym is) (own_set s.track.key s es refl keyed.own) }

-- a record put at its key, in key order
pub order_put : (s : Stamped) (es fs : List (TrackKey × Stamped)) → ((q : TrackKey) → lookup (key_eq q) fs ≡ cond (key_eq s.track.key q) (Some s) (lookup (key_eq q) es)) →
    in_key_order fs ≡ insert_entry key_cmp (in_key_order es) s.track.key s
order_put s es fs holds =
    order_insert es fs s.track.key s
    (subst (λ (eq : TrackKey → TrackKey → Bool). (q : TrackKey) → lookup (eq q) fs ≡ cond (eq s.track.key q) (Some s) (lookup (eq q) es)) key_tests holds)

-- what stands at a key, in key order
pub found_by_fields : (q : TrackKey) (es : List (TrackKey × Stamped)) → lookup (key_eq q) es ≡ found q (in_key_order es)
found_by_fields q es = ap (λ (eq : TrackKey → TrackKey → Bool). lookup (eq q) es) key_tests ∙ sym (found_order q es)
