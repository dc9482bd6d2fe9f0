use Rattle.track_table.proofs.Same.{all_due, tables_same}
use Rattle.track_table.proofs.laws.tables_of_the_same_records.Goals as goal

pub returns-clause-table : goal.returns-clause-table
returns-clause-table c = tables_same

pub returns-clause-due : goal.returns-clause-due
returns-clause-due c = all_due
