-- The approach funnels of a site file (this project's profile).
use Rattle.std.specs.Prelude.{codes as key, ℤ, pos, List, Ok, Err, ◌&&◌, if◌then◌else◌}
use Rattle.std.specs.Ordering.{int_eq}
use Rattle.site_fields.specs.declared.fault.SiteFault.TheVariants.{Range}
use Rattle.site_fields.specs.Kinds.{Reading, ◌>>=◌, Place, field}
use Rattle.site_fields.specs.Numbers.{integer, metres, height}
use Rattle.site_fields.specs.Entries.{optional_tables, entries}
use Rattle.site_types.specs.declared.ranges.TheConstants.{FUNNEL_COUNT, PLACE_METRES, DIRECTION, ELEVATION_FEET, REACH_METRES, CAPTURE_FEET, HALF_METRES, SIDE_METRES, BASE_FEET, RISE_FEET}
use Rattle.site_types.specs.declared.funnel.Funnel.{Funnel}
use Rattle.site_params.specs.declared.funnels.Bounds.{Bounds}
use Rattle.site_params.specs.declared.funnels.Capture.{Capture}
use Rattle.site_params.specs.declared.funnels.Threshold.{Threshold}

-- the landing direction; where both numbers are 0 the second is out of range
unfoldable pub direction_of : Place → Reading (ℤ × ℤ)
direction_of at = do
  dx ← integer 49 (key "dx") DIRECTION at
  dy ← integer 50 (key "dy") DIRECTION at
  if int_eq dx (pos 0) && int_eq dy (pos 0) then Err (Range (field 50 at) (pos 0)) else Ok (dx, dy)

-- where and which way to land
unfoldable pub threshold_of : Place → Reading Threshold
threshold_of at = do
  x ← metres 47 (key "x") PLACE_METRES at
  y ← metres 48 (key "y") PLACE_METRES at
  direction ← direction_of at
  elevation ← integer 51 (key "elevation") ELEVATION_FEET at
  Ok (record { x = x; y = y; dx = direction.0; dy = direction.1; elevation = elevation })

-- which tracks are captured
unfoldable pub capture_of : Place → Reading Capture
capture_of at = do
  ceiling ← height 53 (key "ceiling") CAPTURE_FEET at
  half ← integer 54 (key "capture_half") HALF_METRES at
  side ← integer 55 (key "capture_side") SIDE_METRES at
  Ok (record { ceiling = ceiling; half = half; side = side })

-- the two sides and the two slopes
unfoldable pub bounds_of : Place → Reading Bounds
bounds_of at = do
  half ← integer 56 (key "half") HALF_METRES at
  side ← integer 57 (key "side") SIDE_METRES at
  low_base ← integer 58 (key "low_base") BASE_FEET at
  low_rise ← integer 59 (key "low_rise") RISE_FEET at
  high_base ← integer 60 (key "high_base") BASE_FEET at
  high_rise ← integer 61 (key "high_rise") RISE_FEET at
  Ok (record {
    half = half;
    side = side;
    low_base = low_base;
    low_rise = low_rise;
    high_base = high_base;
    high_rise = high_rise;
  })

-- a funnel, besides its name
unfoldable pub funnel_of : Place → Reading Funnel
funnel_of at = do
  threshold ← threshold_of at
  reach ← integer 52 (key "reach") REACH_METRES at
  capture ← capture_of at
  bounds ← bounds_of at
  Ok (record {
    x = threshold.x;
    y = threshold.y;
    dx = threshold.dx;
    dy = threshold.dy;
    elevation = threshold.elevation;
    reach = reach;
    ceiling = capture.ceiling;
    capture_half = capture.half;
    capture_side = capture.side;
    half = bounds.half;
    side = bounds.side;
    low_base = bounds.low_base;
    low_rise = bounds.low_rise;
    high_base = bounds.high_base;
    high_rise = bounds.high_rise;
  })

-- the funnels, each with its name
unfoldable pub funnels_of : Place → Reading (List Funnel)
funnels_of at = do
  tables ← optional_tables 45 (key "funnel") FUNNEL_COUNT at
  entries funnel_of 46 (key "name") tables
