use Rattle.std.proofs.Common.{w64}
use Rattle.std.proofs.lemmas.Int.{to_z-of_z}
use Rattle.airspace_volumes.proofs.Courses.{before_ends, before_from, lt_fact, lt_true}
use Rattle.airspace_volumes.proofs.Fits.{end_is}
use Rattle.airspace_volumes.proofs.bounds.stays_before.Goals as goal

pub returns-then-place-bound : goal.returns-then-place-bound
returns-then-place-bound c =
    let start = rw (to_z-of_z w64 c.args.place c.ranges.place, to_z-of_z w64 c.args.bound c.ranges.bound) at c.if-place-bound.true in
    rw (end_is c.args.place c.args.speed c.args.look c.requires.course c.requires.look, to_z-of_z w64 c.args.bound c.ranges.bound) (
      λ end. before_from c.args.place c.args.speed c.args.bound c.args.look c.requires.look (lt_fact _ _ start) (lt_fact _ _ end),
      λ stays. lt_true _ _ (before_ends c.args.place c.args.speed c.args.bound c.args.look c.requires.look stays).1,
    )
