use Rattle.std.proofs.Common.{◌≡◌, refl, sym, true, Some, rules, w64, to_z, of_z}
use Rattle.std.proofs.lemmas.Int.{to_z-of_z}
use Rattle.track_motion.specs.Motions.{motion_at}
use Rattle.cycle_workers.specs.Eligible.{is_watched}
use Rattle.cycle_workers.proofs.movers.watched_mover.Goals as goal

pub returns-clause-mover : goal.returns-clause-mover
returns-clause-mover c =
    let time : to_z w64 (of_z w64 c.args.time) ≡ c.args.time = to_z-of_z w64 c.args.time c.ranges.time in
    let yes : is_watched c.args.site.now c.args.row.now.track ≡ true = search rules in
    let some : motion_at c.args.row.now c.args.time ≡ Some c.in_ok-motion.motion = sym (rw time at c.in_ok-motion.ensures.motion) in
    rw (yes, some, c.set_of.ensures.set) refl
