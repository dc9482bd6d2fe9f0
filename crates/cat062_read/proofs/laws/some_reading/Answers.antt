use Rattle.cat062_read.proofs.Readings.{some_reading}
use Rattle.cat062_read.proofs.laws.some_reading.Goals as goal

pub returns : goal.returns
returns c = some_reading c.read_as_spelled.ensures
