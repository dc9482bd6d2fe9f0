use Rattle.std.proofs.Common.{◌≡◌, All, length}
use Rattle.site_fields.specs.Lists.{table_views}
use Rattle.site_fields.proofs.EntrySteps.{IsReadUpTo}
use Rattle.site_fields.proofs.entries.entries_of.Given as goal

abbrev pub invariant-loop-entry : goal.invariant-loop-entry
invariant-loop-entry g l =
    IsReadUpTo (g.R.ReadEntry.reading l.reader) l.number l.key (table_views l.tables) l.entry l.names l.list.items
    × All (g.R.ReadEntry.IsRead l.reader) l.list.items
    × (length l.list.items ≡ l.entry)
