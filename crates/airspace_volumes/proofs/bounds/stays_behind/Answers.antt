use Rattle.std.proofs.Common.{w64}
use Rattle.std.proofs.lemmas.Int.{to_z-of_z}
use Rattle.airspace_volumes.proofs.Courses.{behind_ends, behind_from, le_fact, le_true}
use Rattle.airspace_volumes.proofs.Fits.{end_is}
use Rattle.airspace_volumes.proofs.bounds.stays_behind.Goals as goal

pub returns-then-bound-place : goal.returns-then-bound-place
returns-then-bound-place c =
    let start = rw (to_z-of_z w64 c.args.place c.ranges.place, to_z-of_z w64 c.args.bound c.ranges.bound) at c.if-bound-place.true in
    rw (end_is c.args.place c.args.speed c.args.look c.requires.course c.requires.look, to_z-of_z w64 c.args.bound c.ranges.bound) (
      λ end. behind_from c.args.place c.args.speed c.args.bound c.args.look c.requires.look (le_fact _ _ start) (le_fact _ _ end),
      λ stays. le_true _ _ (behind_ends c.args.place c.args.speed c.args.bound c.args.look c.requires.look stays).1,
    )
