use Rattle.cat062_read.proofs.Usable.{few_usable}
use Rattle.cat062_read.proofs.laws.usable_records_are_long.Goals as goal

pub returns : goal.returns
returns c = few_usable c.read_as_spelled.ensures
