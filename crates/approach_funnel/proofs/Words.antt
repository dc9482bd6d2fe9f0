-- What the definitions say, in words.
use Rattle.std.proofs.Common.{◌≡◌, refl, sym, ◌∙◌, ℕ, ◌≤◌, ℤ, pos, ◌≤ℤ◌, Bool, true, false, true≢false, ◌||◌, int_le, Option, Some, None, IfSome, option_map, ◌↔◌, inl, inr, arith}
use Rattle.std.specs.Prelude.{IsSome, if◌then◌else◌}
use Rattle.std.proofs.lemmas.Bool.{and_from, and_parts, cases_lt, or_cases, or_left, or_right}
use Rattle.std.proofs.lemmas.Int.{ints}
use Rattle.site_types.specs.Looks.{look_of}
use Rattle.site_types.specs.declared.funnel.Funnel.{Funnel}
use Rattle.site_types.specs.declared.site.Set.{Set}
use Rattle.site_types.specs.declared.net.TheConstants.{APM}
use Rattle.tick_sets.specs.Searches.{Finds}
use Rattle.track_motion.specs.declared.motion.Motion.{Motion}
use Rattle.approach_funnel.specs.declared.hit.FunnelHit.{FunnelHit}
use Rattle.approach_funnel.specs.Apm.{apm_hit, first_deviation, hit_at, is_above, is_below, is_captured, is_left, is_deviating, is_right}
use Rattle.approach_funnel.specs.Deviations.{IsCaptured, IsFirst, IsHit, IsOutside, Deviates}
use Rattle.approach_funnel.proofs.Searches.{FindsEach, lt_fact, lt_true}

le_fact : (x y : ℤ) → int_le x y ≡ true → x ≤ℤ y
le_fact x y h = omega (arith, ints)

le_true : (x y : ℤ) → x ≤ℤ y → int_le x y ≡ true
le_true x y h = sym (omega (arith, ints))

-- the hit by whether the track is captured and what the search found
abbrev pub hit_by : Motion → Funnel → Set → Bool → Option ℕ → Option FunnelHit
hit_by m f set captured found = if captured then option_map (λ (t : ℕ). hit_at f m set (pos t)) found else None

-- ---- captured
captured_fact : (f : Funnel) (m : Motion) → is_captured f m ≡ true → IsCaptured f m
captured_fact f m holds =
    let parts = and_parts _ _ holds in
    let both = and_parts _ _ parts.0 in
    let approaching = and_parts _ _ both.0 in
    let reaching = and_parts _ _ both.1 in
    record {
      before = lt_fact _ _ approaching.1;
      in_reach = le_fact _ _ reaching.1;
      in_sides = le_fact _ _ parts.1;
      not_above = le_fact _ _ reaching.0;
      inbound = lt_fact _ _ approaching.0;
    }

captured_true : (f : Funnel) (m : Motion) → IsCaptured f m → is_captured f m ≡ true
captured_true f m captured = and_from _ _
    (and_from _ _ (and_from _ _ (lt_true _ _ captured.inbound) (lt_true _ _ captured.before)) (and_from _ _ (le_true _ _ captured.not_above) (le_true _ _ captured.in_reach)))
    (le_true _ _ captured.in_sides)

-- ---- outside
any_fact : (f : Funnel) (m : Motion) (t : ℤ) → (is_below f m t || is_above f m t || is_left f m t || is_right f m t) ≡ true → IsOutside f m t
any_fact f m t holds =
    elim (or_cases _ _ holds) [
      | inl others ↦
          elim (or_cases _ _ others) [
            | inl slopes ↦ elim (or_cases _ _ slopes) [ inl below ↦ inl (lt_fact _ _ below) | inr above ↦ inr (inl (lt_fact _ _ above)) ]
            | inr left ↦ inr (inr (inl (lt_fact _ _ left)))
          ]
      | inr right ↦ inr (inr (inr (lt_fact _ _ right)))
    ]

any_true : (f : Funnel) (m : Motion) (t : ℤ) → IsOutside f m t → (is_below f m t || is_above f m t || is_left f m t || is_right f m t) ≡ true
any_true f m t outside =
    elim outside [
      | inl below ↦ or_left _ _ (or_left _ _ (or_left _ _ (lt_true _ _ below)))
      | inr others ↦
          elim others [
            | inl above ↦ or_left _ _ (or_left _ _ (or_right _ _ (lt_true _ _ above)))
            | inr sides ↦ elim sides [ inl left ↦ or_left _ _ (or_right _ _ (lt_true _ _ left)) | inr right ↦ or_right _ _ (lt_true _ _ right) ]
          ]
    ]

deviates_fact : (f : Funnel) (m : Motion) (set : Set) (t : ℕ) → t ≤ look_of APM set → is_deviating f m (pos t) ≡ true → Deviates f m set t
deviates_fact f m set t ahead holds =
    let parts = and_parts _ _ holds in
    record {
      ahead = ahead;
      before = lt_fact _ _ parts.0;
      outside = any_fact f m (pos t) parts.1;
    }

deviates_true : (f : Funnel) (m : Motion) (set : Set) (t : ℕ) → Deviates f m set t → is_deviating f m (pos t) ≡ true
deviates_true f m set t deviates = and_from _ _ (lt_true _ _ deviates.before) (any_true f m (pos t) deviates.outside)

-- ---- what a search over the look-ahead found, and where it found nothing
module _ (finds : FindsEach) (m : Motion) (f : Funnel) (set : Set) where
  found_of : (found : Option ℕ) → first_deviation f m (look_of APM set) ≡ found → Finds (λ t. is_deviating f m (pos t)) (look_of APM set) found
  found_of found is = rw is at (finds (λ t. is_deviating f m (pos t)) (look_of APM set))

  found_deviates : (t : ℕ) → first_deviation f m (look_of APM set) ≡ Some t → Deviates f m set t
  found_deviates t is = let first = found_of (Some t) is in deviates_fact f m set t first.ahead first.passes

  none_deviates : (t : ℕ) → first_deviation f m (look_of APM set) ≡ None → Deviates f m set t → ⊥
  none_deviates t is deviates = true≢false (sym (deviates_true f m set t deviates) ∙ found_of None is t deviates.ahead)

  -- ---- hits
  is_hit : (captured : Bool) (found : Option ℕ) → is_captured f m ≡ captured → first_deviation f m (look_of APM set) ≡ found → IsSome (hit_by m f set captured found) → IsHit m f set
  is_hit true (Some t) captured found hit = (captured_fact f m captured, (t, found_deviates t found))
  is_hit true None captured found hit = absurd cc
  is_hit false found captured is hit = absurd cc

  has_hit : (captured : Bool) (found : Option ℕ) → is_captured f m ≡ captured → first_deviation f m (look_of APM set) ≡ found → IsHit m f set → IsSome (hit_by m f set captured found)
  has_hit true (Some t) captured found hit = refl
  has_hit true None captured none (is, (t, deviates)) = absurd (none_deviates t none deviates)
  has_hit false found fails found_is (is, (t, deviates)) = absurd (true≢false (sym (captured_true f m is) ∙ fails))

  pub hit_said : IsSome (apm_hit m f set) ↔ IsHit m f set
  hit_said = (
    is_hit (is_captured f m) (first_deviation f m (look_of APM set)) refl refl,
    has_hit (is_captured f m) (first_deviation f m (look_of APM set)) refl refl,
  )

  first_by : (captured : Bool) (found : Option ℕ) → first_deviation f m (look_of APM set) ≡ found → IfSome (hit_by m f set captured found) (λ hit. IsFirst m f set hit.first)
  first_by true (Some t) found = (
    t,
    refl,
    record {
      deviates = found_deviates t found;
      least = λ s deviates. elim (cases_lt s t) [
        | inl before ↦ absurd (true≢false (sym (deviates_true f m set s deviates) ∙ (found_of (Some t) found).earlier s before))
        | inr later ↦ later
      ];
    },
  )
  first_by true None none = tt
  first_by false found is = tt

  pub first_said : IfSome (apm_hit m f set) (λ hit. IsFirst m f set hit.first)
  first_said = first_by (is_captured f m) (first_deviation f m (look_of APM set)) refl
