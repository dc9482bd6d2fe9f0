use Rattle.std.proofs.Common.{◌∙◌, ap}
use Rattle.asterix_blocks.specs.Held.{Held}
use Rattle.asterix_blocks.specs.Framing.{framing_from}
use Rattle.asterix_blocks.proofs.Framings.{Cuts-end, coming-end, rest_from}
use Rattle.asterix_blocks.proofs.cutting.Cutter.finish.Goals as goal

pub returns-clause-held : goal.returns-clause-held
returns-clause-held c =
    c.end_of.ensures
    ∙ ap (λ z. (framing_from c.self.inside.offset z).end) (rest_from _ _ c.self.inside.given c.deref.ensures.value)
    ∙ ap (λ (z : Held). (framing_from z.offset z.octets).end) c.self.view_is
    ∙ coming-end c.args.self

pub returns-clause-end : goal.returns-clause-end
returns-clause-end c fed given h = returns-clause-held c ∙ Cuts-end c.args.self fed given h
