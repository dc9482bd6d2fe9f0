-- The distance and the offset of a track that keeps its velocity.
use Rattle.std.proofs.Common.{◌≡◌, ap, ◌∙◌, ℤ, pos, ◌+ℤ◌, ◌-ℤ◌, ◌*ℤ◌, neg_ℤ, arith}
use Rattle.std.proofs.lemmas.Int.{ints}
use lib.IntN.{*ℤ_comm}
use Rattle.site_types.specs.declared.funnel.Funnel.{Funnel}
use Rattle.tick_sets.specs.Inequalities.{line_at}
use Rattle.track_motion.specs.declared.motion.Motion.{Motion}
use Rattle.approach_funnel.specs.Apm.{height_over}
use Rattle.approach_funnel.specs.Approaches.{across, along, altitude, distance, offset}
use Rattle.approach_funnel.specs.Lines.{Changes}
use Rattle.approach_funnel.specs.declared.units.TheConstants.{STEP_FEET, STEP_HEIGHT}
use Rattle.approach_funnel.proofs.Products.{neg_times, spread, times_assoc}

-- two products of numbers that change evenly
sum_line : (x u y v dx dy t : ℤ) → line_at u x t *ℤ dx +ℤ line_at v y t *ℤ dy ≡ line_at (u *ℤ dx +ℤ v *ℤ dy) (x *ℤ dx +ℤ y *ℤ dy) t
sum_line x u y v dx dy t = simp spread (rw (*ℤ_comm t dx, *ℤ_comm t dy) (omega (arith, ints)))

difference_line : (x u y v dx dy t : ℤ) → line_at u x t *ℤ dx -ℤ line_at v y t *ℤ dy ≡ line_at (u *ℤ dx -ℤ v *ℤ dy) (x *ℤ dx -ℤ y *ℤ dy) t
difference_line x u y v dx dy t = simp spread (rw (*ℤ_comm t dx, *ℤ_comm t dy) (omega (arith, ints)))

-- a place less another
from_place : (u x p t : ℤ) → line_at u x t -ℤ p ≡ line_at u (x -ℤ p) t
from_place u x p t = omega (arith, ints)

negated_line : (change start t : ℤ) → neg_ℤ (line_at change start t) ≡ line_at (neg_ℤ change) (neg_ℤ start) t
negated_line change start t = rw neg_times (omega (arith, ints))

pub distance_changes : (f : Funnel) (m : Motion) → Changes (distance f m) (neg_ℤ (along f (m.x -ℤ f.x) (m.y -ℤ f.y))) (neg_ℤ (along f m.vx m.vy))
distance_changes f m = λ t.
    rw (from_place m.vx m.x f.x t, from_place m.vy m.y f.y t, sum_line (m.x -ℤ f.x) m.vx (m.y -ℤ f.y) m.vy f.dx f.dy t)
    (negated_line (along f m.vx m.vy) (along f (m.x -ℤ f.x) (m.y -ℤ f.y)) t)

pub offset_changes : (f : Funnel) (m : Motion) → Changes (offset f m) (across f (m.x -ℤ f.x) (m.y -ℤ f.y)) (across f m.vx m.vy)
offset_changes f m = λ t.
    rw (from_place m.vx m.x f.x t, from_place m.vy m.y f.y t)
    (difference_line (m.x -ℤ f.x) m.vx (m.y -ℤ f.y) m.vy f.dy f.dx t)

-- at tick 0 such a number is what it starts as
pub at_start : (number : ℤ → ℤ) (start change : ℤ) → Changes number start change → number (pos 0) ≡ start
at_start number start change changes = changes (pos 0) ∙ omega (arith, ints)

-- so does the negative of such a number
pub negated_changes : (number : ℤ → ℤ) (start change : ℤ) → Changes number start change → Changes (λ t. neg_ℤ (number t)) (neg_ℤ start) (neg_ℤ change)
negated_changes number start change changes = λ t. ap (λ (z : ℤ). neg_ℤ z) (changes t) ∙ negated_line change start t

-- and the height over a slope's base
pub height_changes : (f : Funnel) (m : Motion) (base : ℤ) → Changes (λ t. height_over f base (altitude m t)) (STEP_FEET *ℤ m.alt -ℤ STEP_HEIGHT *ℤ (f.elevation +ℤ base)) (STEP_FEET *ℤ m.vz)
height_changes f m base = λ t. let feet = times_assoc STEP_FEET m.vz t in omega (arith, ints)
