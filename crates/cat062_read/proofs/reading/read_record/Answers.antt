use Rattle.cat062_read.proofs.Readings.{spelled_by, only_by, fault_by}
use Rattle.cat062_read.proofs.reading.read_record.Goals as goal

pub returns-clause-spelled : goal.returns-clause-spelled
returns-clause-spelled c = spelled_by c.read_as_spelled.ensures c.args.bytes.now c.read.result c.read.ensures.reading

pub returns-clause-only : goal.returns-clause-only
returns-clause-only c = only_by c.read_as_spelled.ensures c.args.bytes.now c.read.result c.read.ensures.reading

pub returns-clause-fault : goal.returns-clause-fault
returns-clause-fault c = fault_by c.args.bytes.now c.read.result c.read.ensures.reading
