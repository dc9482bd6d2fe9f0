-- The ranges of what is read of a site file on the way to a site (this project's profile).
use Rattle.std.specs.Prelude.{◌≡◌, ◌<◌, pos, length, ℤ}
use Rattle.site_types.specs.declared.ranges.TheConstants.{DAY_SECONDS, CYCLE_SECONDS, QNH_FEET, PLACE_METRES, DIRECTION, ELEVATION_FEET, CAPTURE_FEET, HALF_METRES, SIDE_METRES, BASE_FEET, RISE_FEET}
use Rattle.site_types.specs.declared.units.TheConstants.{TICKS_PER_SECOND, LENGTH_UNITS_PER_METRE}
use Rattle.site_types.specs.Limits.{IsWithin, IsIn, IsLevel, IsHeight}
use Rattle.site_types.specs.Ranges.{IsSets}
use Rattle.site_params.specs.declared.fields.General.{General}
use Rattle.site_params.specs.declared.sets.NamedSets.{NamedSets}
use Rattle.site_params.specs.declared.funnels.Bounds.{Bounds}
use Rattle.site_params.specs.declared.funnels.Capture.{Capture}
use Rattle.site_params.specs.declared.funnels.Threshold.{Threshold}

-- the source, the times and the correction in range
pub record IsGeneral (general : General) : Type 0 where
  pub sac : general.sac < 256
  pub sic : general.sic < 256
  pub start : IsIn DAY_SECONDS TICKS_PER_SECOND general.start
  pub period : IsIn CYCLE_SECONDS TICKS_PER_SECOND general.period
  pub timeout : IsIn CYCLE_SECONDS TICKS_PER_SECOND general.timeout
  pub qnh : IsLevel QNH_FEET general.qnh

-- parameter sets in range, each with its name
pub record IsNamedSets (named : NamedSets) : Type 0 where
  pub sets : IsSets named.sets
  pub names : length named.names ≡ length named.sets

-- a landing direction in range
pub record IsDirection (direction : ℤ × ℤ) : Type 0 where
  pub dx : IsWithin DIRECTION direction.0
  pub dy : IsWithin DIRECTION direction.1
  pub directed : direction.0 ≡ pos 0 → ¬ (direction.1 ≡ pos 0)

-- a threshold in range
pub record IsThreshold (threshold : Threshold) : Type 0 where
  pub x : IsIn PLACE_METRES LENGTH_UNITS_PER_METRE threshold.x
  pub y : IsIn PLACE_METRES LENGTH_UNITS_PER_METRE threshold.y
  pub direction : IsDirection (threshold.dx, threshold.dy)
  pub elevation : IsWithin ELEVATION_FEET threshold.elevation

-- a capture in range
pub record IsCapture (capture : Capture) : Type 0 where
  pub ceiling : IsHeight CAPTURE_FEET capture.ceiling
  pub half : IsWithin HALF_METRES capture.half
  pub side : IsWithin SIDE_METRES capture.side

-- sides and slopes in range
pub record AreBounds (bounds : Bounds) : Type 0 where
  pub half : IsWithin HALF_METRES bounds.half
  pub side : IsWithin SIDE_METRES bounds.side
  pub low_base : IsWithin BASE_FEET bounds.low_base
  pub low_rise : IsWithin RISE_FEET bounds.low_rise
  pub high_base : IsWithin BASE_FEET bounds.high_base
  pub high_rise : IsWithin RISE_FEET bounds.high_rise
