use Rattle.std.proofs.Common.{sym, arith}
use Rattle.asterix_fields.proofs.PresenceBits.{none_past, some_past, highest_past}
use Rattle.asterix_fields.proofs.presence.first_past.Goals as goal

pub overflow_sub-result : goal.overflow_sub-result
overflow_sub-result c =
    let less = highest_past c.args.bits c.args.rows c.low_bits-past.result c.ilog2.result c.low_bits-past.ensures c.ilog2.ensures.power_le in
    omega arith

pub returns-then-past-eq0-clause-value : goal.returns-then-past-eq0-clause-value
returns-then-past-eq0-clause-value c = λ octets tells.
    sym (none_past c.args.bits c.args.rows c.low_bits-past.result octets c.requires c.low_bits-past.ensures c.if-past-eq0.true tells)

pub returns-else-past-eq0-clause-value : goal.returns-else-past-eq0-clause-value
returns-else-past-eq0-clause-value c = λ octets tells.
    sym (some_past c.args.bits c.args.rows c.low_bits-past.result c.ilog2.result octets c.requires c.low_bits-past.ensures c.ilog2.ensures.power_le c.ilog2.ensures.next_power_gt tells)

pub returns-else-past-eq0-clause-past : goal.returns-else-past-eq0-clause-past
returns-else-past-eq0-clause-past c =
    let less = highest_past c.args.bits c.args.rows c.low_bits-past.result c.ilog2.result c.low_bits-past.ensures c.ilog2.ensures.power_le in
    omega arith
