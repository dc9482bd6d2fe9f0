-- When a track is captured.
use Rattle.std.proofs.Common.{◌≡◌, refl, sym, ◌∙◌, zero, suc, ℤ, pos, negsuc, ◌*ℤ◌, neg_ℤ, ◌<ℤ◌, Bool, true, false, ◌&&◌, int_le, int_lt, ◌↔◌, arith}
use Rattle.std.specs.Int.RustNames.{unsigned_abs}
use Rattle.std.specs.Prelude.{IsTrue}
use Rattle.std.proofs.lemmas.Bool.{and_from, and_left, and_right, true≢false}
use Rattle.std.proofs.lemmas.Int.{by_lt_z, ints}
use Rattle.site_types.specs.declared.funnel.Funnel.{Funnel}
use Rattle.site_types.specs.declared.units.TheConstants.{LENGTH_UNITS_PER_METRE}
use Rattle.track_motion.specs.declared.motion.Motion.{Motion}
use Rattle.approach_funnel.specs.Apm.{beside, is_approaching, is_captured, is_in_reach, side_at}
use Rattle.approach_funnel.specs.Approaches.{along, altitude, distance, length_of, offset}
use Rattle.approach_funnel.specs.Lines.{IsBeyond}
use Rattle.approach_funnel.specs.declared.units.TheConstants.{RUN_LENGTH, RUN_METRES}

-- ---- the three tests, of what the code asks them of
falls_as_it_nears : (z : ℤ) → int_lt (neg_ℤ z) (pos 0) ≡ int_lt (pos 0) z
falls_as_it_nears (pos zero) = refl
falls_as_it_nears (pos (suc n)) = omega (arith, ints)
falls_as_it_nears (negsuc n) = sym (omega (arith, ints))

pub approaching_is : (f : Funnel) (m : Motion) (start change : ℤ) → start ≡ distance f m (pos 0) → change ≡ neg_ℤ (along f m.vx m.vy) → (int_lt change (pos 0) && int_lt (pos 0) start) ≡ is_approaching f m
approaching_is f m start change start_is change_is = rw (start_is, change_is, falls_as_it_nears (along f m.vx m.vy)) refl

altitude_now : (m : Motion) → altitude m (pos 0) ≡ m.alt
altitude_now m = omega (arith, ints)

pub in_reach_is : (f : Funnel) (m : Motion) (start : ℤ) → start ≡ distance f m (pos 0) → (int_le m.alt f.ceiling && int_le start (LENGTH_UNITS_PER_METRE *ℤ f.reach *ℤ length_of f)) ≡ is_in_reach f m
in_reach_is f m start start_is = rw (start_is, altitude_now m) refl

le_true : (x y : ℤ) → (y <ℤ x → ⊥) → int_le x y ≡ true
le_true x y h = by_lt_z y x (λ less. absurd (h less)) (λ not_less. sym (omega (arith, ints)))

le_false : (x y : ℤ) → y <ℤ x → int_le x y ≡ false
le_false x y h = sym (omega (arith, ints))

-- the limit of capture at tick 0, as the code asks of it
abbrev pub IsOutsideSides : Funnel → Motion → Type 0
IsOutsideSides f m = side_at f f.capture_half f.capture_side (distance f m (pos 0)) <ℤ beside (pos (unsigned_abs (offset f m (pos 0))))

pub beyond_sides : (f : Funnel) (m : Motion) (weight share base d c : ℤ) (r : Bool) → (IsTrue r ↔ IsBeyond weight share base d c) → weight ≡ RUN_METRES → share ≡ f.capture_side → base ≡ RUN_LENGTH *ℤ length_of f *ℤ f.capture_half → d ≡ distance f m (pos 0) → c ≡ pos (unsigned_abs (offset f m (pos 0))) →
    IsTrue r ↔ IsOutsideSides f m
beyond_sides f m weight share base d c r beyond weight_is share_is base_is d_is c_is = rw (weight_is, share_is, base_is, d_is, c_is) at beyond

-- ---- whether it is captured
pub not_approaching : (f : Funnel) (m : Motion) → is_approaching f m ≡ false → is_captured f m ≡ false
not_approaching f m fails = and_left _ _ (and_left _ _ fails)

pub not_in_reach : (f : Funnel) (m : Motion) → is_in_reach f m ≡ false → is_captured f m ≡ false
not_in_reach f m fails = and_left _ _ (and_right _ _ fails)

pub not_in_sides : (f : Funnel) (m : Motion) (r : Bool) → (IsTrue r ↔ IsOutsideSides f m) → r ≡ true → is_captured f m ≡ false
not_in_sides f m r beyond holds = and_right _ _ (le_false _ _ (beyond.0 holds))

pub captured_in_all : (f : Funnel) (m : Motion) (r : Bool) → is_approaching f m ≡ true → is_in_reach f m ≡ true → (IsTrue r ↔ IsOutsideSides f m) → r ≡ false → is_captured f m ≡ true
captured_in_all f m r approaching in_reach beyond fails = and_from _ _ (and_from _ _ approaching in_reach) (le_true _ _ (λ outside. true≢false (sym (beyond.1 outside) ∙ fails)))
