use Rattle.std.proofs.Common.{rules, pos, ◌≤ℤ◌, w64, FitsSigned, sym, ap, ◌∙◌, ◌≡◌, arith}
use Rattle.std.proofs.lemmas.Int.{ints}
use Rattle.cycle_engine.proofs.Numbers.{next_fits}
use Rattle.cycle_engine.proofs.engine.Engine.cycle.Goals as goal

pub overflow_add-self : goal.overflow_add-self
overflow_add-self g c =
    let site = c.self.inside.nets.site in
    let range = c.site-site.ensures.range in
    let start = range.start.low in
    let period = range.period.low in
    let fits : FitsSigned w64 c.args.f.now.time = search rules in
    let high : c.args.f.now.time ≤ℤ pos 9223372036854775807 = omega (arith, ints, fits) in
    let under = next_fits c.site-site.result.now.start c.site-site.result.now.period c.args.f.now.time c.self.inside.next (omega (arith, ints)) (omega (arith, ints)) (rw c.site-site.ensures.site (rw (← c.self.view_is) at c.requires.table.time)) high in
    omega (arith, under)
