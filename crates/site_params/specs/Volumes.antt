-- The airspace volumes of a site file (this project's profile).
use Rattle.std.specs.Prelude.{codes as key, List, Ok}
use Rattle.site_fields.specs.Kinds.{Reading, ◌>>=◌, Place}
use Rattle.site_fields.specs.Numbers.{height}
use Rattle.site_fields.specs.Pairs.{pairs, optional_pairs}
use Rattle.site_fields.specs.Entries.{optional_tables, entries}
use Rattle.site_types.specs.declared.ranges.TheConstants.{VOLUME_COUNT, LAYER_FEET, POINTS, ACTIVE_TIMES}
use Rattle.site_types.specs.declared.airspace.Volume.{Volume}

-- a volume, besides its name
unfoldable pub volume_of : Place → Reading Volume
volume_of at = do
  floor ← height 41 (key "floor") LAYER_FEET at
  ceiling ← height 42 (key "ceiling") LAYER_FEET at
  points ← pairs 43 (key "points") POINTS at
  active ← optional_pairs 44 (key "active") ACTIVE_TIMES at
  Ok (record { floor = floor; ceiling = ceiling; points = points; active = active })

-- the volumes, each with its name
unfoldable pub volumes_of : Place → Reading (List Volume)
volumes_of at = do
  tables ← optional_tables 39 (key "volume") VOLUME_COUNT at
  entries volume_of 40 (key "name") tables
