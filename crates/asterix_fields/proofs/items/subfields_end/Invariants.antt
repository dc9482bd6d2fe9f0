-- what the rows that are left give on the octets that are left is what all of them give
use Rattle.std.proofs.Common.{◌≡◌, ◌≤◌, ◌-◌, ℕ, List, length, drop}
use Rattle.asterix_fields.specs.Bits.{Tells}
use Rattle.asterix_fields.proofs.Steps.{subfields_from}
use Rattle.asterix_fields.proofs.items.subfields_end.Given as goal

abbrev pub invariant-loop-number : goal.invariant-loop-number
invariant-loop-number l = record {
  inside : l.at ≤ length l.bytes;
  few : l.done ≤ 35;
  same : (presence : List ℕ) → Tells l.bits presence
      → subfields_from l.frn presence l.rows l.done l.at (drop l.at l.bytes) ≡ subfields_from l.frn presence l.rows 0 l.start (drop l.start l.bytes);
}

abbrev pub decreases-loop-number : goal.decreases-loop-number
decreases-loop-number l = 35 - l.done
