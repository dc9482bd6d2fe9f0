use Rattle.std.proofs.Common.{◌≤◌, ◌^◌, IsTrue, unsigned_abs, ℤ, [], ◌∷◌, w64, FitsSigned, to_z, of_z, All, rules}
use Rattle.std.proofs.lemmas.Int.{to_z-of_z}
use Rattle.std.proofs.lemmas.List.Elements.{All-from_recursion, recursion_from_All}
use Rattle.track_motion.proofs.motion.Motion.in_range.Goals as goal

pub returns-then-are_within : goal.returns-then-are_within
returns-then-are_within c =
    let m = c.args.self.now in
    let near = λ (z : ℤ). unsigned_abs z ≤ 2 ^ 32 in
    let slow = λ (z : ℤ). unsigned_abs z ≤ 2 ^ 15 in
    let same = λ (z : ℤ). to_z w64 (of_z w64 z) in
    let x : FitsSigned w64 m.x = search rules in
    let y : FitsSigned w64 m.y = search rules in
    let z : FitsSigned w64 m.z = search rules in
    let alt : FitsSigned w64 m.alt = search rules in
    let vx : FitsSigned w64 m.vx = search rules in
    let vy : FitsSigned w64 m.vy = search rules in
    let vz : FitsSigned w64 m.vz = search rules in
    let places_near : IsTrue c.are_within.result = search rules in
    let all_near : All near (same m.x ∷ same m.y ∷ same m.z ∷ same m.alt ∷ []) = c.are_within.ensures.0 places_near in
    let places = recursion_from_All near (m.x ∷ m.y ∷ m.z ∷ m.alt ∷ []) (simp to_z-of_z at all_near) in (
      (λ speeds_slow.
          let all_slow : All slow (same m.vx ∷ same m.vy ∷ same m.vz ∷ []) = c.are_within-then-are_within.ensures.0 speeds_slow in
          let speeds = recursion_from_All slow (m.vx ∷ m.vy ∷ m.vz ∷ []) (simp to_z-of_z at all_slow) in
          record { x = places.0; y = places.1.0; z = places.1.1.0; alt = places.1.1.1.0; vx = speeds.0; vy = speeds.1.0; vz = speeds.1.1.0 }),
      (λ range.
          let speeds = All-from_recursion slow (m.vx ∷ m.vy ∷ m.vz ∷ []) (range.vx, (range.vy, (range.vz, tt))) in
          let all_slow : All slow (same m.vx ∷ same m.vy ∷ same m.vz ∷ []) = simp to_z-of_z speeds in
          c.are_within-then-are_within.ensures.1 all_slow),
    )
