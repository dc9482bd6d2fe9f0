use Rattle.cat062_read.proofs.Readings.{one_reading}
use Rattle.cat062_read.proofs.laws.one_reading.Goals as goal

pub returns : goal.returns
returns c = one_reading c.read_as_spelled.ensures
