-- what was taken so far is what stands at the places so far
use Rattle.std.proofs.Common.{◌≡◌, take}
use Rattle.std.specs.HashMap.{values}
use Rattle.track_table.specs.KeyOrder.{records_at}
use Rattle.track_table.proofs.order.rows_at_places.Given as goal

abbrev pub invariant-loop-place : goal.invariant-loop-place
invariant-loop-place l = l.rows.items ≡ records_at (values l.records) (take l.place-index l.places)
