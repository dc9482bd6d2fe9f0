use Rattle.std.proofs.Common.{◌≡◌, w64, to_z, of_z}
use Rattle.std.specs.Int.{int_max}
use Rattle.stca_fine.specs.Relative.{IsLimit}
use Rattle.stca_fine.specs.Stca.{by_split}
use Rattle.stca_fine.proofs.Sets.{first_under, greater_is, greater_limit, height_limit, limit_by_split, limit_is, second_under, under_by_split}
use Rattle.stca_fine.proofs.limits.greater_v.Goals as goal
use Rattle.stca_fine.proofs.limits.greater_v.Goals.{After-by_split}

-- the greater limit below the split, and above it
low_limit : (c : After-by_split) → IsLimit (int_max c.args.set.now.v_low c.args.set.now.now_v_low)
low_limit c = greater_limit _ _ (height_limit _ c.requires.v_low) (height_limit _ c.requires.now_v_low)

high_limit : (c : After-by_split) → IsLimit (int_max c.args.set.now.v_high c.args.set.now.now_v_high)
high_limit c = greater_limit _ _ (height_limit _ c.requires.v_high) (height_limit _ c.requires.now_v_high)

whole : (c : After-by_split) → IsLimit (by_split c.args.a.now c.args.b.now c.args.set.now (int_max c.args.set.now.v_low c.args.set.now.now_v_low) (int_max c.args.set.now.v_high c.args.set.now.now_v_high))
whole c = limit_by_split c.args.a.now c.args.b.now c.args.set.now _ _ (low_limit c) (high_limit c)

found : (c : After-by_split) → to_z w64 (of_z w64 c.by_split.result) ≡ by_split c.args.a.now c.args.b.now c.args.set.now (int_max c.args.set.now.v_low c.args.set.now.now_v_low) (int_max c.args.set.now.v_high c.args.set.now.now_v_high)
found c =
    let low = greater_is c.args.set.now.v_low c.args.set.now.now_v_low c.max-low.result (height_limit _ c.requires.v_low) (height_limit _ c.requires.now_v_low) c.max-low.ensures.value in
    let high = greater_is c.args.set.now.v_high c.args.set.now.now_v_high c.max.result (height_limit _ c.requires.v_high) (height_limit _ c.requires.now_v_high) c.max.ensures.value in
    let result = rw (low, high) at c.by_split.ensures in
    rw result (limit_is _ (whole c))

pub returns-clause-v : goal.returns-clause-v
returns-clause-v c =
    rw (found (goal.at.returns-clause-v c).After-by_split)
    (under_by_split c.args.a.now c.args.b.now c.args.set.now _ _ _ _ (first_under c.args.set.now.v_low c.args.set.now.now_v_low) (first_under c.args.set.now.v_high c.args.set.now.now_v_high))

pub returns-clause-now_v : goal.returns-clause-now_v
returns-clause-now_v c =
    rw (found (goal.at.returns-clause-now_v c).After-by_split)
    (under_by_split c.args.a.now c.args.b.now c.args.set.now _ _ _ _ (second_under c.args.set.now.v_low c.args.set.now.now_v_low) (second_under c.args.set.now.v_high c.args.set.now.now_v_high))

pub returns-clause-limit : goal.returns-clause-limit
returns-clause-limit c = rw (found (goal.at.returns-clause-limit c).After-by_split) (whole (goal.at.returns-clause-limit c).After-by_split)
