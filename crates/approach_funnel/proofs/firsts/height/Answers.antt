use Rattle.std.proofs.Common.{◌+ℤ◌, ◌-ℤ◌, ◌*ℤ◌, arith}
use Rattle.std.proofs.lemmas.Int.{ints}
use Rattle.approach_funnel.specs.declared.units.TheConstants.{STEP_FEET, STEP_HEIGHT}
use Rattle.approach_funnel.proofs.Fits.{as_is}
use Rattle.approach_funnel.proofs.Moving.{height_changes}
use Rattle.approach_funnel.proofs.firsts.height.Goals as goal

pub returns : goal.returns
returns c =
    let alt = c.requires.motion.alt in
    let vz = c.requires.motion.vz in
    let low = c.requires.funnel.elevation.low in
    let high = c.requires.funnel.elevation.high in
    let base_low = c.requires.base.low in
    let base_high = c.requires.base.high in
    rw (
      as_is c.args.m.now.vz (omega arith),
      as_is (STEP_FEET *ℤ c.args.m.now.vz) (omega (arith, ints)),
      as_is c.args.m.now.alt (omega arith),
      as_is (STEP_FEET *ℤ c.args.m.now.alt) (omega (arith, ints)),
      as_is c.args.f.now.elevation (omega (arith, ints)),
      as_is c.args.base (omega (arith, ints)),
      as_is (c.args.f.now.elevation +ℤ c.args.base) (omega (arith, ints)),
      as_is (STEP_HEIGHT *ℤ (c.args.f.now.elevation +ℤ c.args.base)) (omega (arith, ints)),
      as_is (STEP_FEET *ℤ c.args.m.now.alt -ℤ STEP_HEIGHT *ℤ (c.args.f.now.elevation +ℤ c.args.base)) (omega (arith, ints)),
    ) (height_changes c.args.f.now c.args.m.now c.args.base)
