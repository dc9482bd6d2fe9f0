use Rattle.std.proofs.Common.{rules, pos, ◌-ℤ◌, arith, w64, FitsSigned}
use Rattle.std.proofs.lemmas.Int.{ints, to_z-of_z}
use Rattle.tick_sets.specs.Inequalities.{line_at}
use Rattle.stca_fine.proofs.Apart.{as_is}
use Rattle.stca_fine.proofs.Beyond.{beyond_above, beyond_below, end_is, ends_above, ends_below}
use Rattle.stca_fine.proofs.Sets.{limit_is}
use Rattle.stca_fine.proofs.early.stays_beyond.Goals as goal

pub returns-then-limit-min : goal.returns-then-limit-min
returns-then-limit-min c = λ _.
    let apart = c.requires.drift.apart in
    let fits : FitsSigned w64 c.min.result = search rules in
    let least = rw (end_is c.args.apart c.args.speed c.args.look c.requires.drift c.requires.look, as_is c.args.apart (omega arith)) at c.min.ensures.value in
    let above = rw (limit_is c.args.limit c.requires.limit, to_z-of_z w64 c.min.result fits) at c.if-limit-min.true in
    let ends = ends_above c.args.apart (line_at c.args.speed c.args.apart c.args.look) c.min.result c.args.limit least above in
    beyond_above c.args.apart c.args.speed c.args.limit c.args.look ends.0 ends.1

pub returns-else-limit-min : goal.returns-else-limit-min
returns-else-limit-min c = λ test.
    let apart = c.requires.drift.apart in
    let low = c.requires.limit.low in
    let high = c.requires.limit.high in
    let fits : FitsSigned w64 c.max.result = search rules in
    let greatest = rw (end_is c.args.apart c.args.speed c.args.look c.requires.drift c.requires.look, as_is c.args.apart (omega arith)) at c.max.ensures.value in
    let below = rw (limit_is c.args.limit c.requires.limit, to_z-of_z w64 c.max.result fits, as_is (pos 0 -ℤ c.args.limit) (omega (arith, ints))) at test in
    let ends = ends_below c.args.apart (line_at c.args.speed c.args.apart c.args.look) c.max.result c.args.limit greatest below in
    beyond_below c.args.apart c.args.speed c.args.limit c.args.look ends.0 ends.1
