use Rattle.std.proofs.Common.{ap, ◌∙◌, ◌≤◌, ◌^◌, ℤ, ◌*ℤ◌, arith}
use Rattle.std.specs.Int.RustNames.{unsigned_abs}
use Rattle.std.proofs.lemmas.Int.{ints}
use Rattle.site_types.specs.declared.funnel.Funnel.{Funnel}
use Rattle.site_types.specs.declared.units.TheConstants.{LENGTH_UNITS_PER_METRE}
use Rattle.approach_funnel.proofs.Fits.{length_small, reach_fits, reach_is}
use Rattle.approach_funnel.proofs.course.reach.Goals as goal
use Rattle.approach_funnel.proofs.course.reach.Goals.{After-length}

short : (c : After-length) → unsigned_abs c.length.result ≤ 2 ^ 14
short c = rw c.length.ensures (length_small c.args.approach.now c.requires)

reach_near : (c : After-length) → unsigned_abs c.funnel.result.now.reach ≤ 100000
reach_near c = let low = c.requires.reach.low in let high = c.requires.reach.high in rw c.funnel.ensures (omega (arith, ints))

pub overflow_mul-result-2 : goal.overflow_mul-result-2
overflow_mul-result-2 c = reach_fits c.funnel.result.now.reach c.length.result (reach_near c) (short c)

pub returns : goal.returns
returns c =
    reach_is c.funnel.result.now.reach c.length.result (reach_near c) (short c) ∙
    ap (λ (f : Funnel). LENGTH_UNITS_PER_METRE *ℤ f.reach *ℤ c.length.result) c.funnel.ensures ∙
    ap (λ (length : ℤ). LENGTH_UNITS_PER_METRE *ℤ c.args.approach.now.reach *ℤ length) c.length.ensures
