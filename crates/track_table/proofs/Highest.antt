-- The highest of records, when one more comes, and among some of them.
use Rattle.std.proofs.Common.{◌≡◌, Bool, true, false, cond, not, ◌||◌, List, [], ◌∷◌, ◌++◌, Option, Some, None, refl, ap, sym, ◌∙◌}
use Rattle.std.specs.Prelude.{filter, find}
use Rattle.std.specs.List.{AllByRecursion, list_any}
use Rattle.std.proofs.lemmas.Map.Entries.{option_filter}
use Rattle.track_motion.specs.declared.rank.Stamped.{Stamped}
use Rattle.track_motion.specs.Ranks.{outranks}
use Rattle.track_table.specs.Tables.{highest}
use Rattle.track_table.proofs.Orders.{not_outranks_trans, outranks_one, outranks_trans}

-- ---- the highest, by recursion

-- the earlier of two, unless the later one outranks it
abbrev better : Stamped → Stamped → Stamped
better a b = cond (outranks b a) b a

abbrev before : Stamped → Option Stamped → Option Stamped
before a None = Some a
before a (Some b) = Some (better a b)

-- the same with the later one first
abbrev pub after : Option Stamped → Stamped → Option Stamped
after None s = Some s
after (Some h) s = Some (better h s)

abbrev top : List Stamped → Option Stamped
top [] = None
top (x ∷ xs) = before x (top xs)

better_at : (a b c : Stamped) (ba cb ca : Bool) → outranks b a ≡ ba → outranks c b ≡ cb → outranks c a ≡ ca →
    cond (outranks (cond cb c b) a) (cond cb c b) a ≡ cond (outranks c (cond ba b a)) c (cond ba b a)
better_at a b c true true true at_ba at_cb at_ca = rw (at_cb, at_ca) refl
better_at a b c true true false at_ba at_cb at_ca = let one = outranks_trans c b a at_cb at_ba in absurd (cc)
better_at a b c true false ca at_ba at_cb at_ca = rw (at_ba, at_cb) refl
better_at a b c false true ca at_ba at_cb at_ca = refl
better_at a b c false false true at_ba at_cb at_ca = let low = not_outranks_trans c b a at_cb at_ba in absurd (cc)
better_at a b c false false false at_ba at_cb at_ca = rw (at_ba, at_ca) refl

better_assoc : (a b c : Stamped) → better a (better b c) ≡ better (better a b) c
better_assoc a b c = better_at a b c (outranks b a) (outranks c b) (outranks c a) refl refl refl

before_after : (a : Stamped) (h : Option Stamped) (s : Stamped) → before a (after h s) ≡ after (before a h) s
before_after a None s = refl
before_after a (Some h) s = ap Some (better_assoc a h s)

top_push : (xs : List Stamped) (s : Stamped) → top (xs ++ s ∷ []) ≡ after (top xs) s
top_push [] s = refl
top_push (x ∷ xs) s = ap (before x) (top_push xs s) ∙ before_after x (top xs) s

-- ---- it is the first that none outranks

-- the option is there and outranks r
abbrev outranked_by : Option Stamped → Stamped → Bool
outranked_by None r = false
outranked_by (Some h) r = outranks h r

by_better : (x h r : Stamped) (hx xr hr : Bool) → outranks h x ≡ hx → outranks x r ≡ xr → outranks h r ≡ hr → (outranks x r || outranks h r) ≡ outranks (cond hx h x) r
by_better x h r true true true at_hx at_xr at_hr = rw (at_xr, at_hr) refl
by_better x h r true true false at_hx at_xr at_hr = let above = outranks_trans h x r at_hx at_xr in absurd (cc)
by_better x h r true false hr at_hx at_xr at_hr = rw at_xr refl
by_better x h r false true hr at_hx at_xr at_hr = rw at_xr refl
by_better x h r false false true at_hx at_xr at_hr = let low = not_outranks_trans h x r at_hx at_xr in absurd (cc)
by_better x h r false false false at_hx at_xr at_hr = rw (at_xr, at_hr) refl

by_before : (x : Stamped) (t : Option Stamped) (r : Stamped) → (outranks x r || outranked_by t r) ≡ outranked_by (before x t) r
by_before x None r = elim (outranks x r) as (λ b. (b || false) ≡ b) [ true ↦ refl | false ↦ refl ]
by_before x (Some h) r = by_better x h r (outranks h x) (outranks x r) (outranks h r) refl refl refl

-- some record outranks r exactly where the top one does
any_above : (xs : List Stamped) (r : Stamped) → list_any (λ other. outranks other r) xs ≡ outranked_by (top xs) r
any_above [] r = refl
any_above (x ∷ xs) r = ap (λ b. outranks x r || b) (any_above xs r) ∙ by_before x (top xs) r

not_itself_at : (a : Stamped) (b : Bool) → outranks a a ≡ b → outranks a a ≡ false
not_itself_at a true at = outranks_one a a at
not_itself_at a false at = at

not_itself : (a : Stamped) → outranks a a ≡ false
not_itself a = not_itself_at a (outranks a a) refl

found_first : (x : Stamped) (rest : Option Stamped) → cond (not (outranks x x)) (Some x) rest ≡ Some x
found_first x rest = rw (not_itself x) refl

found_at : (x g : Stamped) (xs : List Stamped) (gx : Bool) → outranks g x ≡ gx → find (λ r. not (outranks g r)) xs ≡ Some g →
    cond (not (outranks (cond gx g x) x)) (Some x) (find (λ r. not (outranks (cond gx g x) r)) xs) ≡ Some (cond gx g x)
found_at x g xs true at_gx found = rw at_gx found
found_at x g xs false at_gx found = found_first x (find (λ r. not (outranks x r)) xs)

found_in : (x : Stamped) (xs : List Stamped) (t : Option Stamped) → find (λ r. not (outranked_by t r)) xs ≡ t →
    cond (not (outranked_by (before x t) x)) (Some x) (find (λ r. not (outranked_by (before x t) r)) xs) ≡ before x t
found_in x xs None found = found_first x (find (λ r. not (outranks x r)) xs)
found_in x xs (Some g) found = found_at x g xs (outranks g x) refl found

found_top : (xs : List Stamped) → find (λ r. not (outranked_by (top xs) r)) xs ≡ top xs
found_top [] = refl
found_top (x ∷ xs) = found_in x xs (top xs) (found_top xs)

highest_top : (xs : List Stamped) → highest xs ≡ top xs
highest_top xs = ap (λ (p : Stamped → Bool). find (λ r. not (p r)) xs) (λ i r. any_above xs r i) ∙ found_top xs

-- the highest when one more comes
pub highest_push : (xs : List Stamped) (s : Stamped) → highest (xs ++ s ∷ []) ≡ after (highest xs) s
highest_push xs s = highest_top (xs ++ s ∷ []) ∙ top_push xs s ∙ ap (λ h. after h s) (sym (highest_top xs))

-- ---- the highest of those that pass a test, which each record passes that isn't outranked by one that does

abbrev pub IsUpward : (Stamped → Bool) → Type 0
IsUpward p = (a b : Stamped) → outranks a b ≡ false → p a ≡ true → p b ≡ true

filtered_at : (p : Stamped → Bool) → IsUpward p → (x h : Stamped) (px ph hx : Bool) → p x ≡ px → p h ≡ ph → outranks h x ≡ hx →
    cond px (before x (cond ph (Some h) None)) (cond ph (Some h) None) ≡ cond (p (cond hx h x)) (Some (cond hx h x)) None
filtered_at p up x h true true true at_x at_h at_hx = rw (at_hx, at_h) refl
filtered_at p up x h true true false at_x at_h at_hx = rw (at_hx, at_x) refl
filtered_at p up x h true false true at_x at_h at_hx = let passed = up x h (outranks_one h x at_hx) at_x in absurd (cc)
filtered_at p up x h true false false at_x at_h at_hx = rw at_x refl
filtered_at p up x h false true true at_x at_h at_hx = rw at_h refl
filtered_at p up x h false true false at_x at_h at_hx = let passed = up h x at_hx at_h in absurd (cc)
filtered_at p up x h false false true at_x at_h at_hx = rw at_h refl
filtered_at p up x h false false false at_x at_h at_hx = rw at_x refl

filtered_one : (p : Stamped → Bool) (x : Stamped) (px : Bool) → p x ≡ px → cond px (Some x) None ≡ cond (p x) (Some x) None
filtered_one p x px at = ap (λ b. cond b (Some x) None) (sym at)

filtered_before : (p : Stamped → Bool) → IsUpward p → (x : Stamped) (t : Option Stamped) (px : Bool) → p x ≡ px →
    cond px (before x (option_filter p t)) (option_filter p t) ≡ option_filter p (before x t)
filtered_before p up x None true at = filtered_one p x true at
filtered_before p up x None false at = filtered_one p x false at
filtered_before p up x (Some h) px at = filtered_at p up x h px (p h) (outranks h x) at refl refl

top_cond : (b : Bool) (x : Stamped) (xs : List Stamped) → top (cond b (x ∷ xs) xs) ≡ cond b (before x (top xs)) (top xs)
top_cond true x xs = refl
top_cond false x xs = refl

top_filter : (p : Stamped → Bool) → IsUpward p → (xs : List Stamped) → top (filter p xs) ≡ option_filter p (top xs)
top_filter p up [] = refl
top_filter p up (x ∷ xs) =
    top_cond (p x) x (filter p xs)
    ∙ ap (λ t. cond (p x) (before x t) t) (top_filter p up xs)
    ∙ filtered_before p up x (top xs) (p x) refl

pub highest_filter : (p : Stamped → Bool) → IsUpward p → (xs : List Stamped) → highest (filter p xs) ≡ option_filter p (highest xs)
highest_filter p up xs = highest_top (filter p xs) ∙ top_filter p up xs ∙ ap (option_filter p) (sym (highest_top xs))

-- ---- in words

or_none : (a b : Bool) → (a || b) ≡ false → (a ≡ false) × (b ≡ false)
or_none true b none = absurd (cc)
or_none false b none = (refl, none)

none_any : (p : Stamped → Bool) (xs : List Stamped) → list_any p xs ≡ false → AllByRecursion (λ x. p x ≡ false) xs
none_any p [] none = tt
none_any p (x ∷ xs) none = let parts = or_none (p x) (list_any p xs) none in (parts.0, none_any p xs parts.1)

-- no record outranks the highest
pub highest_best : (xs : List Stamped) (h : Stamped) → highest xs ≡ Some h → AllByRecursion (λ other. outranks other h ≡ false) xs
highest_best xs h is =
    none_any (λ other. outranks other h) xs (any_above xs h ∙ ap (λ t. outranked_by t h) (sym (highest_top xs) ∙ is) ∙ not_itself h)

some_top : (x : Stamped) (t : Option Stamped) → before x t ≡ None → ⊥
some_top x None is = cc
some_top x (Some h) is = cc

pub highest_none : (xs : List Stamped) → highest xs ≡ None → xs ≡ []
highest_none [] is = refl
highest_none (x ∷ xs) is = absurd (some_top x (top xs) (sym (highest_top (x ∷ xs)) ∙ is))
