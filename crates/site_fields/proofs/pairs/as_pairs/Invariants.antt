use Rattle.std.proofs.Common.{◌≡◌, Ok, map, take}
use Rattle.site_fields.specs.Pairs.{as_pair}
use Rattle.toml.specs.View.{view}
use Rattle.site_fields.specs.Lists.{each, of_kind}
use Rattle.site_fields.proofs.pairs.as_pairs.Given as goal

abbrev pub invariant-loop-part : goal.invariant-loop-part
invariant-loop-part l = each (of_kind as_pair l.at) (map view (take l.part-index l.parts)) ≡ Ok l.pairs.items
