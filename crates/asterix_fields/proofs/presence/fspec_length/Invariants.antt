-- what the octets that are left give is what all of them give
use Rattle.std.proofs.Common.{◌≡◌, ◌<◌, drop}
use Rattle.std.specs.Prelude.{None}
use Rattle.asterix_fields.specs.declared.fault.ItemFault.TheVariants.{LongFspec, PastEnd}
use Rattle.asterix_fields.specs.Faults.{presence_at, fspec_at}
use Rattle.asterix_fields.proofs.presence.fspec_length.Given as goal

abbrev pub invariant-loop-index : goal.invariant-loop-index
invariant-loop-index l = record {
  few : l.index < 5;
  same : presence_at (λ index. None) (PastEnd 0) LongFspec l.index (drop l.index l.bytes) ≡ fspec_at l.bytes;
}
