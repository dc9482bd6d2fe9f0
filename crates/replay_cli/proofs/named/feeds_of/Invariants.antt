-- the feeds under the names so far were read
use Rattle.std.proofs.Common.{◌≡◌, length, map, take}
use Rattle.std.specs.String.{string_bytes}
use Rattle.feed_reader.specs.Feeds.{AreTellable}
use Rattle.replay_cli.specs.Found.{ReadsEach}
use Rattle.replay_cli.proofs.named.feeds_of.Given as goal

abbrev pub invariant-loop-i : goal.invariant-loop-i
invariant-loop-i g l = record {
  names : map string_bytes l.names.items ≡ l.fn.names;
  read : ReadsEach (g.W.World.files l.fn.world) (take l.i l.fn.names) l.inputs.items;
  tellable : AreTellable l.inputs.items;
  count : length l.inputs.items ≡ l.i;
  files : g.W.World.files l.world ≡ g.W.World.files l.fn.world;
  closed : g.W.World.opened l.world ≡ g.W.World.opened l.fn.world;
  kept : g.W.World.faults l.world ≡ g.W.World.faults l.fn.world;
}
