-- the places so far are those of the rows among the records so far
use Rattle.std.proofs.Common.{filter, take}
use Rattle.std.specs.HashMap.{values}
use Rattle.track_table.specs.KeyOrder.{AreAt}
use Rattle.track_table.specs.Tables.{is_row}
use Rattle.track_table.proofs.order.places_of_rows.Given as goal

abbrev pub invariant-loop-index : goal.invariant-loop-index
invariant-loop-index l = AreAt (values l.records) l.places.items (filter (is_row l.time l.timeout) (take l.index (values l.records)))
