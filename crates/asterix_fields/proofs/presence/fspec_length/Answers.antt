use Rattle.std.proofs.Common.{arith}
use Rattle.std.specs.Prelude.{None}
use Rattle.std.proofs.lemmas.Grind.{common_steps}
use Rattle.asterix_fields.specs.declared.fault.ItemFault.TheVariants.{LongFspec, PastEnd}
use Rattle.asterix_fields.proofs.Steps.{presence_step, presence_end}
use Rattle.asterix_fields.proofs.presence.fspec_length.Goals as goal

pub returns-then-octet-eq0-clause-value : goal.returns-then-octet-eq0-clause-value
returns-then-octet-eq0-clause-value c =
    let step = presence_step (λ _. None) (PastEnd 0) LongFspec c.args.bytes.now c.loop-index.index (omega arith) in
    grind (arith, common_steps, step)

pub returns-then-index-eq-PRESENCE_ROOM-clause-value : goal.returns-then-index-eq-PRESENCE_ROOM-clause-value
returns-then-index-eq-PRESENCE_ROOM-clause-value c =
    let step = presence_step (λ _. None) (PastEnd 0) LongFspec c.args.bytes.now c.loop-index.index (omega arith) in
    grind (arith, common_steps, step)

pub loop-index-preserved : goal.loop-index-preserved
loop-index-preserved c =
    let step = presence_step (λ _. None) (PastEnd 0) LongFspec c.args.bytes.now c.loop-index.index (omega arith) in
    record { few = omega arith; same = grind (arith, common_steps, step) }

pub returns-clause-value : goal.returns-clause-value
returns-clause-value c =
    let end = presence_end (λ _. None) (PastEnd 0) LongFspec c.args.bytes.now c.loop-index.index (omega arith) in
    cc
