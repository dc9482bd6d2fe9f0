use Rattle.track_table.proofs.HowMany.{no_more_cycles, told_within}
use Rattle.track_table.proofs.cycles.cycles_of_records.Goals as goal

pub returns-clause-each : goal.returns-clause-each
returns-clause-each c = told_within

pub returns-clause-few : goal.returns-clause-few
returns-clause-few c = no_more_cycles
