use Rattle.std.proofs.Common.{rules, w64, SFits}
use Rattle.std.proofs.lemmas.Int.{to_z-of_z}
use Rattle.tick_sets.proofs.Lines.{between_first_last}
use Rattle.tick_sets.proofs.inequality.multiples_between.Goals as goal

pub returns : goal.returns
returns c =
    let fits_step : SFits w64 c.args.step = c.ranges.step in
    let fits_low : SFits w64 c.args.low = c.ranges.low in
    let fits_high : SFits w64 c.args.high = c.ranges.high in
    let fits_l : SFits w64 c.args.l = c.ranges.l in
    let fits_first : SFits w64 c.first_reaching.result = search rules in
    let fits_last : SFits w64 c.last_within.result = search rules in
    let reaches = simp to_z-of_z at c.first_reaching.ensures in
    let stays = simp to_z-of_z at c.last_within.ensures in
    let members = simp to_z-of_z at c.span.ensures.members in
    between_first_last c.args.step c.args.low c.args.high c.args.l c.first_reaching.result c.last_within.result c.span.result
    members c.span.ensures.proper c.requires reaches stays
