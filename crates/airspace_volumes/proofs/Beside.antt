-- A track that stays on one side of all points stays on that side of their bounds.
use Rattle.std.proofs.Common.{ℕ, ◌<◌, List, All, length, ℤ, pos, ◌+ℤ◌, ◌≤ℤ◌, ◌<ℤ◌, inl, inr, arith}
use Rattle.std.proofs.lemmas.Int.{ints}
use Rattle.tick_sets.specs.Inequalities.{line_at}
use Rattle.track_motion.specs.declared.motion.Motion.{Motion}
use Rattle.airspace_volumes.specs.declared.bounds.Bounds.{Bounds}
use Rattle.airspace_volumes.specs.Bounds.{AreBoundsOf, PassesBy, StaysOutside}

-- a number before all points is before their bounds, and so on each side
before_left : (bounds : Bounds) (points : List (ℤ × ℤ)) (x : ℤ) → AreBoundsOf bounds points → 0 < length points → All (λ point. x <ℤ point.0) points → x <ℤ bounds.left
before_left bounds points x are some before =
    let other : Bounds = record { left = x +ℤ pos 1; right = bounds.right; lower = bounds.lower; upper = bounds.upper } in
    let inside = are.least some other (λ i d h. record { left = (let k = before i d h in omega (arith, ints)); right = (are.within i d h).right; lower = (are.within i d h).lower; upper = (are.within i d h).upper }) in
    let left = inside.left in
    omega (arith, ints)

behind_right : (bounds : Bounds) (points : List (ℤ × ℤ)) (x : ℤ) → AreBoundsOf bounds points → 0 < length points → All (λ point. point.0 ≤ℤ x) points → bounds.right ≤ℤ x
behind_right bounds points x are some behind =
    let other : Bounds = record { left = bounds.left; right = x; lower = bounds.lower; upper = bounds.upper } in
    (are.least some other (λ i d h. record { left = (are.within i d h).left; right = behind i d h; lower = (are.within i d h).lower; upper = (are.within i d h).upper })).right

under_lower : (bounds : Bounds) (points : List (ℤ × ℤ)) (y : ℤ) → AreBoundsOf bounds points → 0 < length points → All (λ point. y <ℤ point.1) points → y <ℤ bounds.lower
under_lower bounds points y are some under =
    let other : Bounds = record { left = bounds.left; right = bounds.right; lower = y +ℤ pos 1; upper = bounds.upper } in
    let inside = are.least some other (λ i d h. record { left = (are.within i d h).left; right = (are.within i d h).right; lower = (let k = under i d h in omega (arith, ints)); upper = (are.within i d h).upper }) in
    let lower = inside.lower in
    omega (arith, ints)

over_upper : (bounds : Bounds) (points : List (ℤ × ℤ)) (y : ℤ) → AreBoundsOf bounds points → 0 < length points → All (λ point. point.1 ≤ℤ y) points → bounds.upper ≤ℤ y
over_upper bounds points y are some over =
    let other : Bounds = record { left = bounds.left; right = bounds.right; lower = bounds.lower; upper = y } in
    (are.least some other (λ i d h. record { left = (are.within i d h).left; right = (are.within i d h).right; lower = (are.within i d h).lower; upper = over i d h })).upper

pub outside : (bounds : Bounds) (points : List (ℤ × ℤ)) (m : Motion) (look : ℕ) → AreBoundsOf bounds points → 0 < length points → PassesBy points m look → StaysOutside bounds m look
outside bounds points m look are some (inl (inl before)) = inl (inl (λ t ahead. before_left bounds points (line_at m.vx m.x (pos t)) are some (λ i d h. before i d h t ahead)))
outside bounds points m look are some (inl (inr behind)) = inl (inr (λ t ahead. behind_right bounds points (line_at m.vx m.x (pos t)) are some (λ i d h. behind i d h t ahead)))
outside bounds points m look are some (inr (inl under)) = inr (inl (λ t ahead. under_lower bounds points (line_at m.vy m.y (pos t)) are some (λ i d h. under i d h t ahead)))
outside bounds points m look are some (inr (inr over)) = inr (inr (λ t ahead. over_upper bounds points (line_at m.vy m.y (pos t)) are some (λ i d h. over i d h t ahead)))
