use Rattle.std.proofs.Common.{◌≡◌, ap, ◌∙◌, ◌≤◌, ◌^◌, ℤ, ◌*ℤ◌, arith, w64}
use Rattle.std.specs.Int.RustNames.{unsigned_abs}
use Rattle.std.proofs.lemmas.Int.{ints, to_z-of_z}
use Rattle.site_types.specs.Limits.{IsWithin}
use Rattle.site_types.specs.declared.ranges.TheConstants.{HALF_METRES}
use Rattle.approach_funnel.specs.Approaches.{length_of}
use Rattle.approach_funnel.specs.declared.units.TheConstants.{RUN_LENGTH}
use Rattle.approach_funnel.proofs.Fits.{as_is, base_fits, base_is, base_within, length_small}
use Rattle.approach_funnel.proofs.approach.Approach.side.Goals as goal
use Rattle.approach_funnel.proofs.approach.Approach.side.Goals.{After-self}

length_is : (c : After-self) → c.self.inside.length ≡ length_of c.args.self.now
length_is c = c.self.invariant ∙ ap length_of c.self.view_is

short : (c : After-self) → unsigned_abs c.self.inside.length ≤ 2 ^ 14
short c = rw (length_is c) (length_small c.args.self.now c.requires.funnel)

narrow : (half : ℤ) → IsWithin HALF_METRES half → unsigned_abs half ≤ 20000
narrow half range = let low = range.low in let high = range.high in omega (arith, ints)

pub overflow_mul-result : goal.overflow_mul-result
overflow_mul-result c =
    let few = short (goal.at.overflow_mul-result c).After-self in
    rw (as_is c.self.inside.length (omega arith)) (omega (arith, ints))

pub overflow_mul-result-2 : goal.overflow_mul-result-2
overflow_mul-result-2 c = base_fits c.self.inside.length c.args.half (short (goal.at.overflow_mul-result-2 c).After-self) (narrow c.args.half c.requires.half)

pub invariant_of-result : goal.invariant_of-result
invariant_of-result c =
    let few = short (goal.at.invariant_of-result c).After-self in
    let side_low = c.requires.side.low in
    let side_high = c.requires.side.high in
    rw (to_z-of_z w64 c.args.side c.ranges.side, base_is c.self.inside.length c.args.half few (narrow c.args.half c.requires.half)) (record {
      range = record {
        weight_range = omega arith;
        share_range = omega (arith, ints);
        base_range = base_within c.self.inside.length c.args.half few (narrow c.args.half c.requires.half);
      };
    })

pub returns-clause-base : goal.returns-clause-base
returns-clause-base c =
    let few = short (goal.at.returns-clause-base c).After-self in
    base_is c.self.inside.length c.args.half few (narrow c.args.half c.requires.half) ∙ ap (λ (length : ℤ). RUN_LENGTH *ℤ length *ℤ c.args.half) (length_is (goal.at.returns-clause-base c).After-self)
