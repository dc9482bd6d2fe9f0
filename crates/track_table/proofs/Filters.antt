-- Filters, of lists and of entries.
use Rattle.std.proofs.Common.{◌≡◌, Bool, true, false, cond, ◌&&◌, ◌||◌, List, [], ◌∷◌, Option, Some, None, refl, ap}
use Rattle.std.specs.Prelude.{filter}
use Rattle.std.specs.List.{AllByRecursion, find, list_any}
use Rattle.std.specs.Map.{values_of}
use Rattle.std.proofs.lemmas.Map.Entries.{option_filter}
use Rattle.track_motion.specs.declared.rank.Stamped.{Stamped}
use Rattle.track_motion.specs.declared.track.TrackKey.{TrackKey}
use Rattle.track_table.specs.Kept.{entries_of}

narrow_at : {X : Type 0} (p q : X → Bool) (x : X) (xs : List X) (px qx : Bool) → p x ≡ px → q x ≡ qx → ((x : X) → p x ≡ true → q x ≡ true) → filter p (filter q xs) ≡ filter p xs →
    filter p (cond qx (x ∷ filter q xs) (filter q xs)) ≡ cond px (x ∷ filter p xs) (filter p xs)
narrow_at p q x xs true true at_p at_q narrow rest = rw at_p (ap (λ ys. x ∷ ys) rest)
narrow_at p q x xs true false at_p at_q narrow rest = let wide = narrow x at_p in absurd (cc)
narrow_at p q x xs false true at_p at_q narrow rest = rw at_p rest
narrow_at p q x xs false false at_p at_q narrow rest = rest

-- what passes the narrower of two tests
pub filter_narrow : {X : Type 0} (p q : X → Bool) → ((x : X) → p x ≡ true → q x ≡ true) → (xs : List X) → filter p (filter q xs) ≡ filter p xs
filter_narrow p q narrow [] = refl
filter_narrow p q narrow (x ∷ xs) = narrow_at p q x xs (p x) (q x) refl refl narrow (filter_narrow p q narrow xs)

-- a filter that each element passes
pub filter_all : {X : Type 0} (p : X → Bool) (xs : List X) → AllByRecursion (λ x. p x ≡ true) xs → filter p xs ≡ xs
filter_all p [] all = refl
filter_all p (x ∷ xs) all = rw all.0 (ap (λ ys. x ∷ ys) (filter_all p xs all.1))

none_at : {X : Type 0} (p : X → Bool) (x : X) (xs : List X) (b : Bool) → (b || list_any p xs) ≡ false → (list_any p xs ≡ false → filter p xs ≡ []) → cond b (x ∷ filter p xs) (filter p xs) ≡ []
none_at p x xs true none rest = absurd (cc)
none_at p x xs false none rest = rest none

-- a filter that none passes
pub filter_none : {X : Type 0} (p : X → Bool) (xs : List X) → list_any p xs ≡ false → filter p xs ≡ []
filter_none p [] none = refl
filter_none p (x ∷ xs) none = none_at p x xs (p x) none (filter_none p xs)

passing_at : {X : Type 0} (p : X → Bool) (x : X) (ys : List X) (b : Bool) → p x ≡ b → AllByRecursion (λ y. p y ≡ true) ys → AllByRecursion (λ y. p y ≡ true) (cond b (x ∷ ys) ys)
passing_at p x ys true at all = (at, all)
passing_at p x ys false at all = all

pub filter_passing : {X : Type 0} (p : X → Bool) (xs : List X) → AllByRecursion (λ x. p x ≡ true) (filter p xs)
filter_passing p [] = tt
filter_passing p (x ∷ xs) = passing_at p x (filter p xs) (p x) refl (filter_passing p xs)

found_at : {X : Type 0} (P : X → Type 0) (x h : X) (rest : Option X) (b : Bool) → P x → cond b (Some x) rest ≡ Some h → (rest ≡ Some h → P h) → P h
found_at P x h rest true here is later = let same : x ≡ h = cc in rw (← same) here
found_at P x h rest false here is later = later is

-- what holds of each holds of the one that is found
pub find_all : {X : Type 0} (P : X → Type 0) (p : X → Bool) (xs : List X) (h : X) → AllByRecursion P xs → find p xs ≡ Some h → P h
find_all P p [] h all is = absurd (cc)
find_all P p (x ∷ xs) h all is = found_at P x h (find p xs) (p x) all.0 is (find_all P p xs h all.1)

-- ---- options

pub option_filter_and : (p q : Stamped → Bool) (o : Option Stamped) → option_filter (λ r. p r && q r) o ≡ option_filter q (option_filter p o)
option_filter_and p q None = refl
option_filter_and p q (Some r) = elim (p r) as (λ b. cond (b && q r) (Some r) None ≡ option_filter q (cond b (Some r) None)) [ true ↦ refl | false ↦ refl ]

-- ---- entries

entries_at : (x : Stamped) (es : List (TrackKey × Stamped)) (ys : List Stamped) (b : Bool) → es ≡ entries_of ys →
    cond b ((x.track.key, x) ∷ es) es ≡ entries_of (cond b (x ∷ ys) ys)
entries_at x es ys true same = ap (λ fs. (x.track.key, x) ∷ fs) same
entries_at x es ys false same = same

pub entries-filter : (p : Stamped → Bool) (xs : List Stamped) → filter (λ (e : TrackKey × Stamped). p e.1) (entries_of xs) ≡ entries_of (filter p xs)
entries-filter p [] = refl
entries-filter p (x ∷ xs) = entries_at x (filter (λ (e : TrackKey × Stamped). p e.1) (entries_of xs)) (filter p xs) (p x) (entries-filter p xs)

pub values-entries : (xs : List Stamped) → values_of (entries_of xs) ≡ xs
values-entries [] = refl
values-entries (x ∷ xs) = ap (λ ys. x ∷ ys) (values-entries xs)
