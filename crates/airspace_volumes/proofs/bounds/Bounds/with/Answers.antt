use Rattle.std.proofs.Common.{rules, ◌≡◌, ℤ, ◌≤ℤ◌, FitsSigned, to_z, of_z, w64, arith}
use Rattle.std.specs.Int.{int_max, int_min}
use Rattle.std.proofs.lemmas.Int.{ints, clamps, to_z-of_z}
use Rattle.airspace_volumes.proofs.bounds.Bounds.with.Goals as goal

-- what is at most two numbers is at most the lesser, and what is at least both is at least the greater
lesser : (z a b r : ℤ) → FitsSigned w64 a → FitsSigned w64 b → FitsSigned w64 r → r ≡ int_min (to_z w64 (of_z w64 a)) (to_z w64 (of_z w64 b)) → z ≤ℤ a → z ≤ℤ b → z ≤ℤ to_z w64 (of_z w64 r)
lesser z a b r fits_a fits_b fits_r value under_a under_b =
    let is = rw (to_z-of_z w64 a fits_a, to_z-of_z w64 b fits_b) at value in
    rw (to_z-of_z w64 r fits_r) (omega (arith, ints, clamps))

greater : (z a b r : ℤ) → FitsSigned w64 a → FitsSigned w64 b → FitsSigned w64 r → r ≡ int_max (to_z w64 (of_z w64 a)) (to_z w64 (of_z w64 b)) → a ≤ℤ z → b ≤ℤ z → to_z w64 (of_z w64 r) ≤ℤ z
greater z a b r fits_a fits_b fits_r value over_a over_b =
    let is = rw (to_z-of_z w64 a fits_a, to_z-of_z w64 b fits_b) at value in
    rw (to_z-of_z w64 r fits_r) (omega (arith, ints, clamps))

pub returns-clause-least : goal.returns-clause-least
returns-clause-least c = λ other has wide. record {
  left = lesser other.left c.args.self.left c.args.x c.min.result (search rules) c.ranges.x (search rules) c.min.ensures.value wide.left has.left;
  right = greater other.right c.args.self.right c.args.x c.max.result (search rules) c.ranges.x (search rules) c.max.ensures.value wide.right has.right;
  lower = lesser other.lower c.args.self.lower c.args.y c.min-2.result (search rules) c.ranges.y (search rules) c.min-2.ensures.value wide.lower has.lower;
  upper = greater other.upper c.args.self.upper c.args.y c.max-2.result (search rules) c.ranges.y (search rules) c.max-2.ensures.value wide.upper has.upper;
}
