-- what the octets that are left give is what all of them give
use Rattle.std.proofs.Common.{◌≡◌, ◌<◌}
use Rattle.asterix_fields.specs.Faults.{primary_at}
use Rattle.asterix_fields.proofs.Steps.{primary_from}
use Rattle.asterix_fields.proofs.presence.primary_length.Given as goal

abbrev pub invariant-loop-index : goal.invariant-loop-index
invariant-loop-index l = record {
  few : l.index < 5;
  same : primary_from l.frn l.rows l.bytes l.index ≡ primary_at l.frn l.rows l.bytes;
}
