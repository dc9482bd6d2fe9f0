use Rattle.std.proofs.Common.{◌≡◌, ◌+◌, ◌-◌, ◌≤◌, drop, length}
use Rattle.asterix_blocks.specs.Framing.{framing_from}
use Rattle.asterix_blocks.proofs.framing.end_of.Given as goal

-- what is left ends as all does
abbrev pub invariant-loop-length : goal.invariant-loop-length
invariant-loop-length l = record {
  within : l.at ≤ length l.octets;
  same : (framing_from (l.offset + l.at) (drop l.at l.octets)).end ≡ (framing_from l.offset l.octets).end;
}

abbrev pub decreases-loop-length : goal.decreases-loop-length
decreases-loop-length l = length l.octets - l.at
