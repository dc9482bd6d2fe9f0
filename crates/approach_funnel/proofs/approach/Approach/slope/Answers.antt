use Rattle.std.proofs.Common.{◌≡◌, ap, ◌∙◌, ◌≤◌, ◌^◌, ℤ, ◌*ℤ◌, arith}
use Rattle.std.specs.Int.RustNames.{unsigned_abs}
use Rattle.std.proofs.lemmas.Int.{ints}
use Rattle.approach_funnel.specs.Approaches.{length_of}
use Rattle.approach_funnel.specs.declared.units.TheConstants.{RUN_SHARE, STEP_SHARE}
use Rattle.approach_funnel.proofs.Fits.{as_is, length_small, weight_is}
use Rattle.approach_funnel.proofs.approach.Approach.slope.Goals as goal
use Rattle.approach_funnel.proofs.approach.Approach.slope.Goals.{After-self}

length_is : (c : After-self) → c.self.inside.length ≡ length_of c.args.self.now
length_is c = c.self.invariant ∙ ap length_of c.self.view_is

short : (c : After-self) → unsigned_abs c.self.inside.length ≤ 2 ^ 14
short c = rw (length_is c) (length_small c.args.self.now c.requires.funnel)

pub overflow_mul-result : goal.overflow_mul-result
overflow_mul-result c =
    let few = short (goal.at.overflow_mul-result c).After-self in
    rw (as_is c.self.inside.length (omega arith)) (omega (arith, ints))

pub invariant_of-result : goal.invariant_of-result
invariant_of-result c =
    let few = short (goal.at.invariant_of-result c).After-self in
    let rise_low = c.requires.rise.low in
    let rise_high = c.requires.rise.high in
    rw (weight_is c.self.inside.length few, as_is c.args.rise (omega (arith, ints)), as_is (STEP_SHARE *ℤ c.args.rise) (omega (arith, ints))) (record {
      range = record {
        weight_range = omega (arith, ints);
        share_range = omega (arith, ints);
        base_range = omega arith;
      };
    })

pub returns-clause-weight : goal.returns-clause-weight
returns-clause-weight c =
    let few = short (goal.at.returns-clause-weight c).After-self in
    weight_is c.self.inside.length few ∙ ap (λ (length : ℤ). RUN_SHARE *ℤ length) (length_is (goal.at.returns-clause-weight c).After-self)
