use Rattle.std.proofs.Common.{rules, ◌≡◌, pos, ◌*ℤ◌, w64, to_z, of_z}
use Rattle.site_fields.proofs.Units.{times_in}
use Rattle.site_fields.proofs.pairs.in_units.Goals as goal

pub returns-clause-inside : goal.returns-clause-inside
returns-clause-inside c =
    let value : to_z w64 (of_z w64 c.times.result) ≡ c.in_ok-within.field-0 *ℤ pos c.args.limits.units = search rules in
    rw value (times_in c.args.limits.number c.in_ok-within.field-0 c.args.limits.units c.in_ok-within.ensures.inside)
