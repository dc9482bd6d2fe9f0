use Rattle.std.proofs.Common.{List, ap, ◌∙◌}
use Rattle.std.specs.BTreeMap.{insert_entry}
use Rattle.track_motion.specs.declared.rank.Stamped.{Stamped}
use Rattle.track_motion.specs.declared.track.TrackKey.{TrackKey}
use Rattle.track_motion.specs.Keys.{key_cmp}
use Rattle.track_table.proofs.KeyOrder.{keyed_inserted, order_put}
use Rattle.track_table.proofs.latest.Latest.insert.Goals as goal

pub invariant_of-self-2 : goal.invariant_of-self-2
invariant_of-self-2 c =
    keyed_inserted c.args.s c.self.inside.records.entries c.insert.new.self.entries c.in_ok-insert.ensures.entries c.in_ok-insert.ensures.unique c.self.invariant

pub returns-clause-inserted : goal.returns-clause-inserted
returns-clause-inserted c =
    let s = c.args.s in
    order_put s c.self.inside.records.entries c.insert.new.self.entries c.in_ok-insert.ensures.updates.0
    ∙ ap (λ (es : List (TrackKey × Stamped)). insert_entry key_cmp es s.track.key s) c.self.view_is
