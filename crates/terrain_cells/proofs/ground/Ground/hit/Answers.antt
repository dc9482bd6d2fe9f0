use Rattle.std.proofs.Common.{rules, ap, sym, ◌∙◌, Some, FitsSigned, w64}
use Rattle.std.proofs.lemmas.Int.{to_z-of_z}
use Rattle.terrain_cells.proofs.Hits.{hit_found, no_hit}
use Rattle.terrain_cells.proofs.ground.Ground.hit.Goals as goal

pub returns-in_err-first : goal.returns-in_err-first
returns-in_err-first c =
    let fits : FitsSigned w64 c.look_ahead.result = search rules in
    let found = rw (to_z-of_z w64 c.look_ahead.result fits, c.look_ahead.ensures.look) at c.first_too_low.ensures in
    c.from_residual.ensures ∙ sym (no_hit c.searches_find_the_first.ensures.only c.args.m.now c.args.self.now c.args.set.now c.first_too_low.result c.in_err-first.was found)

pub returns : goal.returns
returns c =
    let fits : FitsSigned w64 c.look_ahead.result = search rules in
    let found = rw (to_z-of_z w64 c.look_ahead.result fits, c.look_ahead.ensures.look) at c.first_too_low.ensures in
    let fits_first : FitsSigned w64 c.in_ok-first.first = search rules in
    let fits_urgent : FitsSigned w64 c.args.set.now.urgent = search rules in
    let figures = rw (to_z-of_z w64 c.in_ok-first.first fits_first, to_z-of_z w64 c.args.set.now.urgent fits_urgent) at c.from_tick.ensures in
    ap Some figures ∙ sym (hit_found c.searches_find_the_first.ensures.only c.args.m.now c.args.self.now c.args.set.now c.first_too_low.result c.in_ok-first.first c.in_ok-first.was found)
