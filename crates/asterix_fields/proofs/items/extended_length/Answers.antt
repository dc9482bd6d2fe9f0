use Rattle.std.proofs.Common.{arith}
use Rattle.std.proofs.lemmas.Grind.{common_steps}
use Rattle.asterix_fields.proofs.Steps.{extended_step, extended_end}
use Rattle.asterix_fields.proofs.items.extended_length.Goals as goal
use Rattle.asterix_fields.proofs.items.extended_length.Goals.{then-left-eq1+else-octet-eq0, else-left-eq1}

pub returns-then-octet-eq0-clause-value : goal.returns-then-octet-eq0-clause-value
returns-then-octet-eq0-clause-value c =
    let step = extended_step c.args.frn c.args.size c.loop-index.left c.args.bytes.now c.loop-index.index (omega arith) in
    grind (arith, common_steps, step)

pub loop-index-preserved : goal.loop-index-preserved
loop-index-preserved c =
    let step = extended_step c.args.frn c.args.size c.loop-index.left c.args.bytes.now c.loop-index.index (omega arith) in
    elim c.if-left-eq1.branch [
      | then-left-eq1+else-octet-eq0 w ↦ rw w.left-is (record { above_zero = omega arith; same = grind (arith, common_steps, step) })
      | else-left-eq1 w ↦ rw w.left-is (record { above_zero = omega arith; same = grind (arith, common_steps, step) })
    ]

pub returns-clause-value : goal.returns-clause-value
returns-clause-value c =
    let end = extended_end c.args.frn c.args.size c.loop-index.left c.args.bytes.now c.loop-index.index (omega arith) in
    cc
