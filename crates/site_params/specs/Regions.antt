-- The regions of a site file, in which other parameter sets hold than the first (this project's profile).
use Rattle.std.specs.Prelude.{codes as key, ℕ, List, Ok}
use Rattle.site_fields.specs.Kinds.{Reading, ◌>>=◌, Place}
use Rattle.site_fields.specs.Numbers.{height}
use Rattle.site_fields.specs.Pairs.{pairs}
use Rattle.site_fields.specs.Entries.{optional_tables, named_entry, entries}
use Rattle.site_types.specs.declared.ranges.TheConstants.{REGION_COUNT, LAYER_FEET, POINTS}
use Rattle.site_types.specs.declared.airspace.Region.{Region}

-- a region, besides its name, where the sets have these names
unfoldable pub region_of : List (List ℕ) → Place → Reading Region
region_of sets at = do
  set ← named_entry 35 (key "set") sets at
  floor ← height 36 (key "floor") LAYER_FEET at
  ceiling ← height 37 (key "ceiling") LAYER_FEET at
  points ← pairs 38 (key "points") POINTS at
  Ok (record { set = set; floor = floor; ceiling = ceiling; points = points })

-- the regions, each with its name
unfoldable pub regions_of : List (List ℕ) → Place → Reading (List Region)
regions_of sets at = do
  tables ← optional_tables 33 (key "region") REGION_COUNT at
  entries (region_of sets) 34 (key "name") tables
