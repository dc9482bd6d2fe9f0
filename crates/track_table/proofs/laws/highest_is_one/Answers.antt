use Rattle.track_table.proofs.Highest.{highest_none}
use Rattle.track_table.proofs.TableRows.{highest_is}
use Rattle.track_table.proofs.laws.highest_is_one.Goals as goal

pub returns-clause-one : goal.returns-clause-one
returns-clause-one c = highest_is

pub returns-clause-none : goal.returns-clause-none
returns-clause-none c = highest_none
