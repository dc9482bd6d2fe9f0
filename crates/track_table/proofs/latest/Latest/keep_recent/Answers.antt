use Rattle.std.proofs.Common.{◌≡◌, ap, filter, sym, subst, ◌∙◌, rules}
use Rattle.std.proofs.lemmas.Map.Made.{filter_same_pairs}
use Rattle.track_motion.specs.declared.rank.Stamped.{Stamped}
use Rattle.track_motion.specs.declared.track.TrackKey.{TrackKey}
use Rattle.track_table.specs.KeyOrder.{AreKeyed, in_key_order}
use Rattle.track_table.specs.Tables.{is_recent}
use Rattle.track_table.proofs.KeyOrder.{keyed_kept, order_filter}
use Rattle.track_table.proofs.latest.Latest.keep_recent.Goals as goal
use Rattle.track_table.proofs.latest.Latest.keep_recent.Goals.{After-retain}

kept : (c : After-retain) → c.retain.new.self.entries ≡ filter (λ (e : TrackKey × Stamped). is_recent c.args.time c.args.timeout e.1) c.self.inside.records.entries
kept c =
    filter_same_pairs _ (λ (e : TrackKey × Stamped). is_recent c.args.time c.args.timeout e.1) _ (λ k v b w f' t. search rules) c.self.inside.records.entries c.retain.new.self.entries c.retain.ensures.filtered

pub invariant_of-self : goal.invariant_of-self
invariant_of-self c =
    subst AreKeyed (sym (kept c)) (keyed_kept (λ (e : TrackKey × Stamped). is_recent c.args.time c.args.timeout e.1) c.self.inside.records.entries c.self.invariant)

pub returns : goal.returns
returns c =
    ap in_key_order (kept c)
    ∙ order_filter (is_recent c.args.time c.args.timeout) c.self.inside.records.entries c.self.invariant.apart
    ∙ ap (filter (λ (e : TrackKey × Stamped). is_recent c.args.time c.args.timeout e.1)) c.self.view_is
