-- none of the records so far is usable
use Rattle.std.proofs.Common.{◌≡◌}
use Rattle.feed_threads.specs.Cursors.{tracks_from}
use Rattle.feed_threads.proofs.cursor.next_track.Given as goal

abbrev pub invariant-loop-at : goal.invariant-loop-at
invariant-loop-at l = tracks_from l.qnh l.records l.from ≡ tracks_from l.qnh l.records l.at
