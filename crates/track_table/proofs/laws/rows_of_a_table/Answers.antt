use Rattle.std.proofs.Common.{◌≡◌, true, rules}
use Rattle.track_table.specs.Tables.{is_row}
use Rattle.track_table.specs.Times.{cycle_time}
use Rattle.track_table.proofs.TableRows.{row_stands, rows_are, rows_rise}
use Rattle.track_table.proofs.laws.rows_of_a_table.Goals as goal

pub returns-clause-rising : goal.returns-clause-rising
returns-clause-rising c = rows_rise

pub returns-clause-each : goal.returns-clause-each
returns-clause-each c = rows_are

pub returns-clause-all : goal.returns-clause-all
returns-clause-all c = λ start period timeout k records r heads row.
    let is : is_row (cycle_time start period k) timeout r ≡ true = search rules in
    row_stands start period timeout k records r heads is
