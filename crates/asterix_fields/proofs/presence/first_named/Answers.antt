use Rattle.std.proofs.Common.{◌+◌, arith}
use Rattle.std.proofs.lemmas.Grind.{common_steps}
use Rattle.asterix_fields.proofs.Steps.{first_named_step, first_named_end}
use Rattle.asterix_fields.proofs.presence.first_named.Goals as goal

pub returns-then-is_named : goal.returns-then-is_named
returns-then-is_named c =
    let step = first_named_step c.args.octets.now (c.args.from + c.args.count) c.loop-number.number (omega arith) in
    grind (arith, common_steps, step)

pub loop-number-preserved : goal.loop-number-preserved
loop-number-preserved c =
    let step = first_named_step c.args.octets.now (c.args.from + c.args.count) c.loop-number.number (omega arith) in
    grind (arith, common_steps, step)

pub returns : goal.returns
returns c =
    let end = first_named_end c.args.octets.now (c.args.from + c.args.count) c.loop-number.number (omega arith) in
    grind (arith, common_steps, end)
