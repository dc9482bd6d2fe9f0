-- the first among all the numbers is the first among those that are left
use Rattle.std.proofs.Common.{◌≡◌, ◌-◌}
use Rattle.asterix_fields.specs.Faults.{first_named}
use Rattle.asterix_fields.proofs.presence.first_named.Given as goal

abbrev pub invariant-loop-number : goal.invariant-loop-number
invariant-loop-number l = first_named l.octets (l.number-end - l.number) l.number ≡ first_named l.octets l.count l.from
