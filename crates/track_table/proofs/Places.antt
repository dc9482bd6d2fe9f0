-- Places of records, and what a sort by their numbers makes of them.
use Rattle.std.proofs.Common.{◌≡◌, ℕ, zero, suc, ◌+◌, ◌*◌, ◌<◌, ◌≤◌, Bool, true, false, cond, List, [], ◌∷◌, ◌++◌, length, get_or, take, map, Option, Some, None, inl, inr, refl, ap, sym, subst, ◌∙◌, arith}
use Rattle.std.specs.Prelude.{filter, slice_get}
use Rattle.std.specs.List.{All, AllByRecursion, cons_option}
use Rattle.std.specs.List.Sorted.{IsPermutation, IsSortedByKey}
use Rattle.std.specs.Ordering.{is_lt, nat_cmp, ordering_then}
use Rattle.std.specs.Cmp.{nat_cmp_is}
use Rattle.std.specs.declared.cmp.Ordering.{Ordering}
use Rattle.std.specs.declared.cmp.Ordering.TheVariants.{Less, Equal, Greater}
use Rattle.std.proofs.Math.Nat.{add-mul, mul-le-mul_right, one-mul}
use Rattle.std.proofs.Math.Seq.{take-suc}
use Rattle.std.proofs.lemmas.Cmp.{ranked}
use Rattle.std.proofs.lemmas.List.{append-nil, get_or-map, length-map}
use Rattle.std.proofs.lemmas.List.Elements.{All-append, All-from_recursion, recursion_from_All, filter-append, filter_map-append}
use Rattle.std.proofs.lemmas.List.Sorted.{All-permutation, IsPermutation-map, IsPermutation-refl, length_permutation}
use Rattle.std.specs.Map.{values_of}
use Rattle.std.proofs.lemmas.Option.{slice_get_cases}
use Rattle.track_motion.specs.declared.rank.Stamped.{Stamped}
use Rattle.track_motion.specs.declared.track.TrackKey.{TrackKey}
use Rattle.track_motion.specs.Keys.{key_cmp}
use Rattle.track_table.specs.declared.order.RowPlace.{RowPlace}
use Rattle.track_table.specs.KeyOrder.{AreAt, IsKey, key_number, records_at, numbered_at, numbered}

-- ---- one more place

pub no_places : (records : List Stamped) → AreAt records [] []
no_places records = record { told = refl; keys = All-from_recursion (λ (r : Stamped). IsKey r.track.key) [] tt }

append_map : {X Y : Type 0} (f : X → Y) (xs ys : List X) → map f (xs ++ ys) ≡ map f xs ++ map f ys
append_map f [] ys = refl
append_map f (x ∷ xs) ys = ap (λ zs. f x ∷ zs) (append_map f xs ys)

one_told : (records : List Stamped) (place : RowPlace) (r : Stamped) → place.number ≡ key_number r.track.key → slice_get records place.index ≡ Some r → numbered_at records place ≡ numbered r
one_told records place r number here = rw (number, here) refl

pub place_more : (records : List Stamped) (places : List RowPlace) (those : List Stamped) (place : RowPlace) (r : Stamped) → AreAt records places those → place.number ≡ key_number r.track.key → slice_get records place.index ≡ Some r →
    IsKey r.track.key → AreAt records (places ++ place ∷ []) (those ++ r ∷ [])
place_more records places those place r at number here key = record {
  told = append_map (numbered_at records) places (place ∷ [])
      ∙ ap (λ ts. ts ++ numbered_at records place ∷ []) at.told
      ∙ ap (λ t. map numbered those ++ t ∷ []) (one_told records place r number here)
      ∙ sym (append_map numbered those (r ∷ []));
  keys = All-append (λ (r : Stamped). IsKey r.track.key) those (r ∷ []) at.keys (All-from_recursion (λ (r : Stamped). IsKey r.track.key) (r ∷ []) (key, tt));
}

-- ---- one more element

take_next : {X : Type 0} (xs : List X) (i : ℕ) (x : X) → slice_get xs i ≡ Some x → take (suc i) xs ≡ take i xs ++ x ∷ []
take_next [] i x is = absurd (cc)
take_next (y ∷ ys) zero x is = let same : y ≡ x = cc in rw same refl
take_next (y ∷ ys) (suc i) x is = ap (λ zs. y ∷ zs) (take_next ys i x is)

take_more : {X : Type 0} (xs : List X) (i : ℕ) (x : X) → slice_get xs i ≡ Some x → take (i + 1) xs ≡ take i xs ++ x ∷ []
take_more xs i x is = let next : i + 1 ≡ suc i = omega arith in ap (λ n. take n xs) next ∙ take_next xs i x is

pub filter_more : (p : Stamped → Bool) (rs : List Stamped) (i : ℕ) (r : Stamped) → slice_get rs i ≡ Some r → p r ≡ true → filter p (take (i + 1) rs) ≡ filter p (take i rs) ++ r ∷ []
filter_more p rs i r is passes = ap (filter p) (take_more rs i r is) ∙ filter-append p (take i rs) (r ∷ []) ∙ ap (λ b. filter p (take i rs) ++ cond b (r ∷ []) []) passes

pub filter_same : (p : Stamped → Bool) (rs : List Stamped) (i : ℕ) (r : Stamped) → slice_get rs i ≡ Some r → p r ≡ false → filter p (take (i + 1) rs) ≡ filter p (take i rs)
filter_same p rs i r is fails = ap (filter p) (take_more rs i r is) ∙ filter-append p (take i rs) (r ∷ []) ∙ ap (λ b. filter p (take i rs) ++ cond b (r ∷ []) []) fails ∙ append-nil (filter p (take i rs))

some_at : (p : Stamped → Bool) (x : Stamped) (xs : List Stamped) (b : Bool) → (xs ≡ [] → ⊥) → cond b (x ∷ xs) xs ≡ [] → ⊥
some_at p x xs true some none = cc
some_at p x xs false some none = some none

-- where one passes, some pass
pub some_pass : (p : Stamped → Bool) (rs : List Stamped) (i : ℕ) (r : Stamped) → slice_get rs i ≡ Some r → p r ≡ true → filter p rs ≡ [] → ⊥
some_pass p [] i r is passes none = cc
some_pass p (x ∷ xs) zero r is passes none =
    let same : x ≡ r = cc in
    let first : p x ≡ true = ap p same ∙ passes in
    let more : x ∷ filter p xs ≡ [] = ap (λ b. cond b (x ∷ filter p xs) (filter p xs)) (sym first) ∙ none in
    cc
some_pass p (x ∷ xs) (suc i) r is passes none = some_at p x (filter p xs) (p x) (some_pass p xs i r is passes) none

-- ---- what stands at a place

pub value_at : (es : List (TrackKey × Stamped)) (i : ℕ) (k : TrackKey) (r : Stamped) → slice_get es i ≡ Some (k, r) → slice_get (values_of es) i ≡ Some r
value_at [] i k r is = absurd (cc)
value_at (e ∷ es) zero k r is = let same : e ≡ (k, r) = cc in ap (λ (x : TrackKey × Stamped). Some x.1) same
value_at (e ∷ es) (suc i) k r is = value_at es i k r is

pub no_value_at : (es : List (TrackKey × Stamped)) (i : ℕ) → slice_get es i ≡ None → slice_get (values_of es) i ≡ None
no_value_at [] i is = refl
no_value_at (e ∷ es) zero is = absurd (cc)
no_value_at (e ∷ es) (suc i) is = no_value_at es i is

pub never_none : {X : Type 0} (xs : List X) (i : ℕ) → slice_get xs i ≡ None → i < length xs → ⊥
never_none xs i is below =
    elim (slice_get_cases xs i).1 [
      | inl found ↦ let some = found.2 in cc
      | inr past ↦ let far = past.0 in omega arith
    ]

pub record_more : (records : List Stamped) (places : List RowPlace) (i : ℕ) (none : RowPlace) (o : Option Stamped) → i < length places → slice_get records (get_or places i none).index ≡ o →
    records_at records (take (i + 1) places) ≡ records_at records (take i places) ++ cons_option o []
record_more records places i none o below here =
    let next : i + 1 ≡ suc i = omega arith in
    ap (λ n. records_at records (take n places)) next
    ∙ ap (records_at records) (take-suc places i none below)
    ∙ filter_map-append (λ (place : RowPlace). slice_get records place.index) (take i places) (get_or places i none ∷ [])
    ∙ ap (λ (x : Option Stamped). records_at records (take i places) ++ cons_option x []) here

-- ---- keys in the order of their numbers

below : (x y n m k : ℕ) → x < y → n < k → x * k + n < y * k + m
below x y n m k less small =
    let step : (x + 1) * k ≤ y * k = mul-le-mul_right k (omega arith) in
    let one : (x + 1) * k ≡ x * k + k = add-mul x 1 k ∙ ap (λ z. x * k + z) (one-mul k) in
    omega arith

shifted : (s n m : ℕ) (o : Ordering) → nat_cmp n m ≡ o → nat_cmp (s + n) (s + m) ≡ o
shifted s n m Less is = let r = ranked n m Less (sym is) in sym (nat_cmp_is (s + n) (s + m) Less (omega arith))
shifted s n m Equal is = let r = ranked n m Equal (sym is) in sym (nat_cmp_is (s + n) (s + m) Equal (omega arith))
shifted s n m Greater is = let r = ranked n m Greater (sym is) in sym (nat_cmp_is (s + n) (s + m) Greater (omega arith))

two_digits_at : (x y n m k : ℕ) (o : Ordering) → nat_cmp x y ≡ o → n < k → m < k → nat_cmp (x * k + n) (y * k + m) ≡ ordering_then o (nat_cmp n m)
two_digits_at x y n m k Less is low high = sym (nat_cmp_is (x * k + n) (y * k + m) Less (below x y n m k (ranked x y Less (sym is)) low))
two_digits_at x y n m k Greater is low high = sym (nat_cmp_is (x * k + n) (y * k + m) Greater (below y x m n k (ranked x y Greater (sym is)) high))
two_digits_at x y n m k Equal is low high =
    let same : x ≡ y = ranked x y Equal (sym is) in
    ap (λ z. nat_cmp (z * k + n) (y * k + m)) same ∙ shifted (y * k) n m (nat_cmp n m) refl

two_digits : (x y n m k : ℕ) → n < k → m < k → nat_cmp (x * k + n) (y * k + m) ≡ ordering_then (nat_cmp x y) (nat_cmp n m)
two_digits x y n m k low high = two_digits_at x y n m k (nat_cmp x y) refl low high

then_then : (a b c : Ordering) → ordering_then (ordering_then a b) c ≡ ordering_then a (ordering_then b c)
then_then Less b c = refl
then_then Equal b c = refl
then_then Greater b c = refl

-- the numbers of two keys are in the order of the keys
number_order : (a b : TrackKey) → IsKey a → IsKey b → nat_cmp (key_number a) (key_number b) ≡ key_cmp a b
number_order a b is_a is_b =
    two_digits (a.sac * 256 + a.sic) (b.sac * 256 + b.sic) a.number b.number 65536 is_a.number is_b.number
    ∙ ap (λ o. ordering_then o (nat_cmp a.number b.number)) (two_digits a.sac b.sac a.sic b.sic 256 is_a.sic is_b.sic)
    ∙ then_then (nat_cmp a.sac b.sac) (nat_cmp a.sic b.sic) (nat_cmp a.number b.number)

-- ---- places sorted by their numbers

abbrev HasKey : Stamped → Type 0
HasKey r = IsKey r.track.key

-- what a place tells is what is to be told of a record
abbrev Tells : ℕ × Option Stamped → Type 0
Tells t = (r : Stamped) × (t ≡ numbered r) × HasKey r

each_tells : (those : List Stamped) → AllByRecursion HasKey those → AllByRecursion Tells (map numbered those)
each_tells [] keys = tt
each_tells (r ∷ rs) keys = ((r, refl, keys.0), each_tells rs keys.1)

-- places that tell of records tell of those that stand there
read_back : (records : List Stamped) (places : List RowPlace) → AllByRecursion Tells (map (numbered_at records) places) →
    (map (numbered_at records) places ≡ map numbered (records_at records places)) × AllByRecursion HasKey (records_at records places)
read_back records [] all = (refl, tt)
read_back records (p ∷ ps) all =
    let r = all.0.0 in
    let rest = read_back records ps all.1 in
    let here : slice_get records p.index ≡ Some r = ap (λ (t : ℕ × Option Stamped). t.1) all.0.1 in
    let more : records_at records (p ∷ ps) ≡ r ∷ records_at records ps = ap (λ o. cons_option o (records_at records ps)) here in
    ((λ i. all.0.1 i ∷ rest.0 i) ∙ ap (map numbered) (sym more), subst (AllByRecursion HasKey) (sym more) (all.0.2, rest.1))

abbrev stood : Stamped → Option Stamped → Stamped
stood d None = d
stood d (Some r) = r

stood_all : (d : Stamped) (rs : List Stamped) → map (λ (t : ℕ × Option Stamped). stood d t.1) (map numbered rs) ≡ rs
stood_all d [] = refl
stood_all d (r ∷ rs) = ap (λ xs. r ∷ xs) (stood_all d rs)

moved_back : (rs xs : List Stamped) → IsPermutation (map numbered rs) (map numbered xs) → IsPermutation rs xs
moved_back [] [] moves = IsPermutation-refl []
moved_back [] (x ∷ xs) moves = let long = length_permutation (map numbered []) (map numbered (x ∷ xs)) moves in absurd (cc)
moved_back (r ∷ rs) xs moves =
    let back : IsPermutation (map (λ (t : ℕ × Option Stamped). stood r t.1) (map numbered (r ∷ rs))) (map (λ (t : ℕ × Option Stamped). stood r t.1) (map numbered xs)) =
    IsPermutation-map (λ (t : ℕ × Option Stamped). stood r t.1) (map numbered (r ∷ rs)) (map numbered xs) moves in
    rw (stood_all r (r ∷ rs), stood_all r xs) at back

numbers_of : (records : List Stamped) (places : List RowPlace) (xs : List Stamped) → map (numbered_at records) places ≡ map numbered xs → map (λ (p : RowPlace). p.number) places ≡ map (λ (r : Stamped). key_number r.track.key) xs
numbers_of records [] [] same = refl
numbers_of records [] (x ∷ xs) same = absurd (cc)
numbers_of records (p ∷ ps) [] same = absurd (cc)
numbers_of records (p ∷ ps) (x ∷ xs) same =
    let first : numbered_at records p ≡ numbered x = cc in
    let rest : map (numbered_at records) ps ≡ map numbered xs = cc in
    λ i. (first i).0 ∷ numbers_of records ps xs rest i

by_key : (records : List Stamped) (places : List RowPlace) (xs : List Stamped) → map (numbered_at records) places ≡ map numbered xs → All HasKey xs → IsSortedByKey (λ p. p.number) nat_cmp places → IsSortedByKey (λ r. r.track.key) key_cmp xs
by_key records places xs same keys sorted = λ k d low high.
    let none : RowPlace = record { number = 0; index = 0 } in
    let number : RowPlace → ℕ = λ p. p.number in
    let key : Stamped → ℕ = λ r. key_number r.track.key in
    let numbers : map number places ≡ map key xs = numbers_of records places xs same in
    let long : length places ≡ length xs = sym (length-map places number) ∙ ap length numbers ∙ length-map xs key in
    let at : (j : ℕ) → j < length xs → number (get_or places j none) ≡ key (get_or xs j d) =
    λ j within. sym (get_or-map number places j none 0 (omega arith)) ∙ ap (λ ns. get_or ns j 0) numbers ∙ get_or-map key xs j d 0 within in
    let a = get_or xs (k + 1) d in
    let b = get_or xs k d in
    ap is_lt (sym (number_order a.track.key b.track.key (keys (k + 1) d high) (keys k d (omega arith))))
    ∙ sym (ap (λ n. is_lt (nat_cmp n (number (get_or places k none)))) (at (k + 1) high) ∙ ap (λ n. is_lt (nat_cmp (key a) n)) (at k (omega arith)))
    ∙ sorted k none low (omega arith)

-- sorted by their numbers, places show the same records, sorted by their keys
pub sorted_places : (records : List Stamped) (places sorted : List RowPlace) (those : List Stamped) → AreAt records places those → IsPermutation places sorted → IsSortedByKey (λ p. p.number) nat_cmp sorted →
    IsPermutation those (records_at records sorted) × IsSortedByKey (λ r. r.track.key) key_cmp (records_at records sorted)
sorted_places records places sorted those at moves rises =
    let moved : IsPermutation (map numbered those) (map (numbered_at records) sorted) = subst (λ ts. IsPermutation ts (map (numbered_at records) sorted)) at.told (IsPermutation-map (numbered_at records) places sorted moves) in
    let tells : All Tells (map numbered those) = All-from_recursion Tells (map numbered those) (each_tells those (recursion_from_All HasKey those at.keys)) in
    let back = read_back records sorted (recursion_from_All Tells (map (numbered_at records) sorted) (All-permutation Tells (map numbered those) (map (numbered_at records) sorted) moved tells)) in
    let xs = records_at records sorted in
    (moved_back those xs (subst (λ ts. IsPermutation (map numbered those) ts) back.0 moved), by_key records sorted xs back.0 (All-from_recursion HasKey xs back.1) rises)

none_left : {X Y : Type 0} (xs : List X) (ys : List Y) → length xs ≡ length ys → ys ≡ [] → xs ≡ []
none_left [] ys long none = refl
none_left (x ∷ xs) ys long none = let short : length ys ≡ 0 = ap length none in absurd (cc)

-- where there are places, there are records
pub no_place_left : (records : List Stamped) (places sorted : List RowPlace) (those : List Stamped) → AreAt records places those → IsPermutation places sorted → those ≡ [] → sorted ≡ []
no_place_left records places sorted those at moves none =
    none_left sorted those
    (length_permutation places sorted moves ∙ sym (length-map places (numbered_at records)) ∙ ap length at.told ∙ length-map those numbered) none
