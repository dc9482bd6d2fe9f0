-- what the octets that are left give is what all of them give
use Rattle.std.proofs.Common.{◌≡◌, ◌≤◌, drop}
use Rattle.asterix_fields.specs.Faults.{extended_at}
use Rattle.asterix_fields.proofs.items.extended_length.Given as goal

abbrev pub invariant-loop-index : goal.invariant-loop-index
invariant-loop-index l = record {
  above_zero : 1 ≤ l.left;
  same : extended_at l.frn l.size l.left l.index (drop l.index l.bytes) ≡ extended_at l.frn l.size l.size 0 l.bytes;
}
