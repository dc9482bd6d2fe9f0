use Rattle.std.proofs.Common.{◌≡◌, Ok, map, take}
use Rattle.toml.specs.Data.{as_table}
use Rattle.toml.specs.View.{view}
use Rattle.site_fields.specs.Lists.{each, of_kind, table_views}
use Rattle.site_fields.proofs.lists.as_tables.Given as goal

abbrev pub invariant-loop-part : goal.invariant-loop-part
invariant-loop-part l = each (of_kind as_table l.at) (map view (take l.part-index l.parts)) ≡ Ok (table_views l.tables.items)
