-- When two tracks are within limits, as a test and as a fact.
use Rattle.std.proofs.Common.{◌≡◌, ap, sym, ◌∙◌, ℕ, ℤ, pos, ◌*ℤ◌, ◌≤ℤ◌, ◌<ℤ◌, Bool, true, false, ◌&&◌, int_lt, int_le, unsigned_abs, arith}
use Rattle.std.proofs.lemmas.Bool.{and_from, and_left, and_parts, and_right, false_from_ne_true}
use Rattle.std.proofs.lemmas.Int.{ints}
use Rattle.tick_sets.specs.Inequalities.{line_at}
use Rattle.tick_sets.specs.Plane.{squared_length}
use Rattle.stca_fine.specs.Relative.{RelativeMotion, IsWithin, is_closing, is_level_at, is_near_at, is_within}
use Rattle.stca_fine.specs.Stca.{is_in_proximity}

lt_true : (x y : ℤ) → x <ℤ y → int_lt x y ≡ true
lt_true x y h = sym (omega (arith, ints))

lt_fact : (x y : ℤ) → int_lt x y ≡ true → x <ℤ y
lt_fact x y h = omega (arith, ints)

pub le_true : (x y : ℤ) → x ≤ℤ y → int_le x y ≡ true
le_true x y h = sym (omega (arith, ints))

pub le_fact : (x y : ℤ) → int_le x y ≡ true → x ≤ℤ y
le_fact x y h = omega (arith, ints)

-- ---- at tick 0 a distance is what it is
line_now : (u x : ℤ) → line_at u x (pos 0) ≡ x
line_now u x = omega (arith, ints)

near_now : (r : RelativeMotion) (h : ℤ) → is_near_at r h 0 ≡ int_lt (squared_length r.dx r.dy) (h *ℤ h)
near_now r h = ap (λ (x : ℤ). int_lt (squared_length x (line_at r.dvy r.dy (pos 0))) (h *ℤ h)) (line_now r.dvx r.dx) ∙ ap (λ (y : ℤ). int_lt (squared_length r.dx y) (h *ℤ h)) (line_now r.dvy r.dy)

level_now : (r : RelativeMotion) (v : ℤ) → is_level_at r v 0 ≡ int_lt (pos (unsigned_abs r.dz)) v
level_now r v = ap (λ (z : ℤ). int_lt (pos (unsigned_abs z)) v) (line_now r.dvz r.dz)

pub in_proximity : (r : RelativeMotion) (h v : ℤ) → int_lt (squared_length r.dx r.dy) (h *ℤ h) ≡ true → int_lt (pos (unsigned_abs r.dz)) v ≡ true → is_in_proximity r h v ≡ is_closing r
in_proximity r h v near level = ap (λ (b : Bool). b && is_closing r) (and_from _ _ (near_now r h ∙ near) (level_now r v ∙ level))

pub not_near : (r : RelativeMotion) (h v : ℤ) → int_lt (squared_length r.dx r.dy) (h *ℤ h) ≡ false → is_in_proximity r h v ≡ false
not_near r h v far = and_left _ _ (and_left _ _ (near_now r h ∙ far))

pub not_level : (r : RelativeMotion) (h v : ℤ) → int_lt (pos (unsigned_abs r.dz)) v ≡ false → is_in_proximity r h v ≡ false
not_level r h v off = and_left _ _ (and_right _ _ (level_now r v ∙ off))

-- ---- at any tick
pub within_true : (r : RelativeMotion) (h v : ℤ) (t : ℕ) → IsWithin r h v (pos t) → is_within r h v t ≡ true
within_true r h v t holds = and_from _ _ (lt_true _ _ holds.0) (lt_true _ _ holds.1)

pub within_fact : (r : RelativeMotion) (h v : ℤ) (t : ℕ) → is_within r h v t ≡ true → IsWithin r h v (pos t)
within_fact r h v t holds = let parts = and_parts _ _ holds in (lt_fact _ _ parts.0, lt_fact _ _ parts.1)

pub within_false : (r : RelativeMotion) (h v : ℤ) (t : ℕ) → ¬ IsWithin r h v (pos t) → is_within r h v t ≡ false
within_false r h v t fails = false_from_ne_true (is_within r h v t) (λ holds. fails (within_fact r h v t holds))
