-- The definitions and the words for them.
use Rattle.std.proofs.Common.{◌≡◌, ◌↔◌, refl, sym, ◌∙◌, inl, inr, ℕ, ◌≤◌, ℤ, pos, ◌≤ℤ◌, ◌<ℤ◌, Bool, true, false, true≢false, cond, if◌then◌else◌, ◌||◌, ◌&&◌, int_le, int_lt, Option, Some, None, IsSome, IsTrue, IfSome, option_map, List, arith}
use Rattle.std.proofs.lemmas.Bool.{and_from, and_parts, cases_lt, or_cases, or_left, or_right}
use Rattle.std.proofs.lemmas.Int.{ints}
use Rattle.site_types.specs.declared.airspace.Volume.{Volume}
use Rattle.site_types.specs.Looks.{look_of}
use Rattle.site_types.specs.declared.site.Set.{Set}
use Rattle.site_types.specs.declared.net.TheConstants.{APW}
use Rattle.tick_sets.specs.Searches.{Finds, hit_from}
use Rattle.tick_sets.specs.declared.TickHit.{TickHit}
use Rattle.track_motion.specs.declared.motion.Motion.{Motion}
use Rattle.polygon_plan.specs.Inside.{IsInsideAt}
use Rattle.airspace_volumes.specs.Active.{holds_time, is_active}
use Rattle.airspace_volumes.specs.Apw.{apw_hit, first_inside, is_inside_at}
use Rattle.airspace_volumes.specs.Bounds.{PassesBy}
use Rattle.airspace_volumes.specs.Infringements.{HoldsTime, Infringes, IsFirst, IsHit}
use Rattle.airspace_volumes.proofs.Band.{band_fact, band_true}
use Rattle.airspace_volumes.proofs.Courses.{le_fact, le_true, lt_fact, lt_true}
use Rattle.airspace_volumes.proofs.Outside.{never_inside}
use Rattle.airspace_volumes.proofs.Searches.{SearchesFind}

-- ---- times
not_less : (x y : ℤ) → int_lt x y ≡ false → y ≤ℤ x
not_less x y h = omega (arith, ints)

wraps : (from to m : ℤ) → (to <ℤ from) → IsTrue (int_le from m || int_lt m to) ↔ HoldsTime from to m
wraps from to m over = (
  λ h. inr (over, elim (or_cases (int_le from m) (int_lt m to) h) [ inl a ↦ inl (le_fact _ _ a) | inr b ↦ inr (lt_fact _ _ b) ]),
  λ h. elim h [
    | inl within ↦ (let before = within.0 in absurd (omega (arith, ints)))
    | inr beyond ↦ elim beyond.1 [ inl a ↦ or_left _ _ (le_true _ _ a) | inr b ↦ or_right _ _ (lt_true _ _ b) ]
  ],
)

in_order : (from to m : ℤ) → (from ≤ℤ to) → IsTrue (int_le from m && int_lt m to) ↔ HoldsTime from to m
in_order from to m order = (
  λ h.
      let parts = and_parts _ _ h in
      let low = le_fact _ _ parts.0 in
      let high = lt_fact _ _ parts.1 in
      inl (omega (arith, ints), low, high),
  λ h. elim h [
    | inl within ↦ and_from _ _ (le_true _ _ within.1) (lt_true _ _ within.2)
    | inr beyond ↦ (let after = beyond.0 in absurd (omega (arith, ints)))
  ],
)

by_order : (from to m : ℤ) (over : Bool) → int_lt to from ≡ over → IsTrue (cond over (int_le from m || int_lt m to) (int_le from m && int_lt m to)) ↔ HoldsTime from to m
by_order from to m true h = wraps from to m (lt_fact _ _ h)
by_order from to m false h = in_order from to m (not_less _ _ h)

pub times_said : (from to m : ℤ) → IsTrue (holds_time (from, to) m) ↔ HoldsTime from to m
times_said from to m = by_order from to m (int_lt to from) refl

-- ---- hits
infringes_fact : (m : Motion) (v : Volume) (set : Set) (t : ℕ) → t ≤ look_of APW set → is_inside_at m v (pos t) ≡ true → Infringes m v set t
infringes_fact m v set t ahead holds = let parts = and_parts _ _ holds in record { ahead = ahead; inside = parts.0; in_band = band_fact m v (pos t) parts.1 }

infringes_true : (m : Motion) (v : Volume) (set : Set) (t : ℕ) → Infringes m v set t → is_inside_at m v (pos t) ≡ true
infringes_true m v set t infringes = and_from _ _ infringes.inside (band_true m v (pos t) infringes.in_band)

-- what the search over the look-ahead found
abbrev pub FoundAhead : Motion → Volume → Set → Option ℕ → Type 0
FoundAhead m v set found = Finds (λ t. is_inside_at m v (pos t)) (look_of APW set) found

abbrev pub hit_by : Set → Bool → Option ℕ → Option TickHit
hit_by set active found = if active then option_map (λ (t : ℕ). hit_from set.urgent (pos t)) found else None

is_hit : (m : Motion) (v : Volume) (time : ℤ) (set : Set) (active : Bool) (found : Option ℕ) → is_active v time ≡ active → FoundAhead m v set found → IsSome (hit_by set active found) → IsHit m v time set
is_hit m v time set true (Some t) active first hit = (active, (t, infringes_fact m v set t first.ahead first.passes))
is_hit m v time set true None active fails hit = absurd cc
is_hit m v time set false found asleep ahead hit = absurd cc

has_hit : (m : Motion) (v : Volume) (time : ℤ) (set : Set) (active : Bool) (found : Option ℕ) → is_active v time ≡ active → FoundAhead m v set found → IsHit m v time set → IsSome (hit_by set active found)
has_hit m v time set true (Some t) active first hit = refl
has_hit m v time set true None active fails (awake, (t, infringes)) = absurd (true≢false (sym (infringes_true m v set t infringes) ∙ fails t infringes.ahead))
has_hit m v time set false found asleep ahead (awake, (t, infringes)) = absurd (true≢false (sym awake ∙ asleep))

pub hit_said : SearchesFind → (m : Motion) (v : Volume) (time : ℤ) (set : Set) → IsSome (apw_hit m v time set) ↔ IsHit m v time set
hit_said finds m v time set =
    let ahead = finds (λ t. is_inside_at m v (pos t)) (look_of APW set) in (
      is_hit m v time set (is_active v time) (first_inside m v (look_of APW set)) refl ahead,
      has_hit m v time set (is_active v time) (first_inside m v (look_of APW set)) refl ahead,
    )

first_by : (m : Motion) (v : Volume) (set : Set) (active : Bool) (found : Option ℕ) → FoundAhead m v set found → IfSome (hit_by set active found) (λ hit. IsFirst m v set hit.first)
first_by m v set true (Some t) first = (
  t,
  refl,
  record {
    infringes = infringes_fact m v set t first.ahead first.passes;
    least = λ s infringes. elim (cases_lt s t) [
      | inl before ↦ absurd (true≢false (sym (infringes_true m v set s infringes) ∙ first.earlier s before))
      | inr later ↦ later
    ];
  },
)
first_by m v set true None fails = tt
first_by m v set false found ahead = tt

pub first_said : SearchesFind → (m : Motion) (v : Volume) (time : ℤ) (set : Set) → IfSome (apw_hit m v time set) (λ hit. IsFirst m v set hit.first)
first_said finds m v time set = first_by m v set (is_active v time) (first_inside m v (look_of APW set)) (finds (λ t. is_inside_at m v (pos t)) (look_of APW set))

-- ---- tracks that pass by
pub outside_said : (points : List (ℤ × ℤ)) (m : Motion) (look t : ℕ) → PassesBy points m look → t ≤ look → IsInsideAt points m (pos t) → ⊥
outside_said points m look t passes ahead inside = true≢false (sym inside ∙ never_inside points m look t passes ahead)
