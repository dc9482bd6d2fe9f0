-- what was read so far was taken from the source's front, the content of its blocks is gathered, and the count is as it was
use Rattle.std.proofs.Common.{◌≡◌, ◌≤◌, ◌+◌, List, ℕ, length}
use Rattle.std.specs.List.{All}
use Rattle.std.specs.Io.KnownBytes.{Consumes}
use Rattle.asterix_blocks.specs.Cutting.{Cuts}
use Rattle.asterix_blocks.specs.Framing.{blocks}
use Rattle.cat062_read.specs.Tracks.{IsPlaced}
use Rattle.asterix_blocks.specs.declared.TheConstants.{FEED_ROOM}
use Rattle.feed_reader.specs.Feeds.{Gathers}
use Rattle.outside_io.specs.declared.text.TheConstants.{PIECE}
use Rattle.feed_reader.proofs.input.read_whole.Given as goal

abbrev pub invariant-loop-room : goal.invariant-loop-room
invariant-loop-room g l = record {
  read : (fed : List ℕ) × Consumes (g.S.Source.left l.initial.source) (g.S.Source.left l.source) fed × Cuts l.cutter fed (blocks fed) × Gathers l.gathered (blocks fed) × (l.room + length fed ≡ FEED_ROOM);
  piece : length l.piece ≡ PIECE;
  within : l.room ≤ FEED_ROOM;
  placed : All IsPlaced l.gathered.records.items;
  kept : g.S.Source.faults l.source ≡ g.S.Source.faults l.initial.source;
}

abbrev pub decreases-loop-room : goal.decreases-loop-room
decreases-loop-room g l = l.room
