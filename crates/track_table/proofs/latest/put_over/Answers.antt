use Rattle.std.proofs.Common.{ap, sym, ◌∙◌}
use Rattle.std.specs.Option.{option_copied_mut}
use Rattle.std.proofs.lemmas.Map.Steps.{set_value_same}
use Rattle.track_table.specs.KeyOrder.{key_eq}
use Rattle.track_table.proofs.latest.put_over.Goals as goal

-- the record read is left as it was
pub returns-clause-same : goal.returns-clause-same
returns-clause-same c = λ superseded.
    let r = c.in_ok-r.r.now in
    (c.get_mut.follows.holds r).0 ∙ set_value_same (key_eq c.args.s.now.track.key) c.args.records.now.entries r (sym c.get_mut.ensures.value ∙ ap option_copied_mut c.in_ok-r.was)
