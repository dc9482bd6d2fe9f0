-- The ranges of a set's limits.
use Rattle.std.proofs.Common.{◌≡◌, ℤ, pos, ◌≤ℤ◌, Bool, true, false, cond, ◌&&◌, int_le, arith, w64, to_z, of_z}
use Rattle.std.specs.Int.{int_max}
use Rattle.std.proofs.lemmas.Bool.{cond_both}
use Rattle.std.proofs.lemmas.Int.{ints, clamps}
use Rattle.site_types.specs.Limits.{IsHeight, IsIn}
use Rattle.site_types.specs.declared.ranges.TheConstants.{SEPARATION_FEET, SEPARATION_METRES}
use Rattle.site_types.specs.declared.units.TheConstants.{LENGTH_UNITS_PER_METRE}
use Rattle.site_types.specs.declared.site.Set.{Set}
use Rattle.track_motion.specs.declared.motion.Motion.{Motion}
use Rattle.stca_fine.specs.Relative.{IsLimit}
use Rattle.stca_fine.specs.Stca.{by_split}
use Rattle.stca_fine.proofs.Apart.{as_is}

pub length_limit : (h : ℤ) → IsIn SEPARATION_METRES LENGTH_UNITS_PER_METRE h → IsLimit h
length_limit h range =
    let low = range.low in
    let high = range.high in
    record { low = omega (arith, ints); high = omega (arith, ints) }

pub height_limit : (v : ℤ) → IsHeight SEPARATION_FEET v → IsLimit v
height_limit v range =
    let low = range.low in
    let high = range.high in
    record { low = omega (arith, ints); high = omega (arith, ints) }

-- the greater of two limits
pub greater_limit : (v w : ℤ) → IsLimit v → IsLimit w → IsLimit (int_max v w)
greater_limit v w is_v is_w =
    let v_low = is_v.low in
    let v_high = is_v.high in
    let w_low = is_w.low in
    let w_high = is_w.high in
    record { low = omega (arith, ints, clamps); high = omega (arith, ints, clamps) }

-- a limit stays what it is in 64 bits, and so does the greater of two
pub limit_is : (v : ℤ) → IsLimit v → to_z w64 (of_z w64 v) ≡ v
limit_is v is_v =
    let low = is_v.low in
    let high = is_v.high in
    as_is v (omega (arith, ints))

pub greater_is : (v w found : ℤ) → IsLimit v → IsLimit w → found ≡ int_max (to_z w64 (of_z w64 v)) (to_z w64 (of_z w64 w)) → to_z w64 (of_z w64 found) ≡ int_max v w
greater_is v w found is_v is_w value =
    let same = rw (limit_is v is_v, limit_is w is_w) at value in
    rw same (limit_is (int_max v w) (greater_limit v w is_v is_w))

pub first_under : (v w : ℤ) → v ≤ℤ int_max v w
first_under v w = omega (arith, ints, clamps)

pub second_under : (v w : ℤ) → w ≤ℤ int_max v w
second_under v w = omega (arith, ints, clamps)

-- what holds of both limits holds of the pair's
pub limit_by_split : (a b : Motion) (set : Set) (low high : ℤ) → IsLimit low → IsLimit high → IsLimit (by_split a b set low high)
limit_by_split a b set low high is_low is_high = cond_both (int_le a.z set.split && int_le b.z set.split) low high IsLimit (λ _. is_low) (λ _. is_high)

under : (both : Bool) (low high greater_low greater_high : ℤ) → low ≤ℤ greater_low → high ≤ℤ greater_high → cond both low high ≤ℤ cond both greater_low greater_high
under true low high greater_low greater_high below_low below_high = below_low
under false low high greater_low greater_high below_low below_high = below_high

pub under_by_split : (a b : Motion) (set : Set) (low high greater_low greater_high : ℤ) → low ≤ℤ greater_low → high ≤ℤ greater_high → by_split a b set low high ≤ℤ by_split a b set greater_low greater_high
under_by_split a b set low high greater_low greater_high below_low below_high = under (int_le a.z set.split && int_le b.z set.split) low high greater_low greater_high below_low below_high

pub split_is : (a b : Motion) (set : Set) (low high found : ℤ) → IsLimit low → IsLimit high → found ≡ by_split a b set (to_z w64 (of_z w64 low)) (to_z w64 (of_z w64 high)) → to_z w64 (of_z w64 found) ≡ by_split a b set low high
split_is a b set low high found is_low is_high value =
    let same = rw (limit_is low is_low, limit_is high is_high) at value in
    rw same (limit_is (by_split a b set low high) (limit_by_split a b set low high is_low is_high))
