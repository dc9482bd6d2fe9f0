-- The ranges of the fields (this project's profile).
use Rattle.std.specs.Prelude.{ℕ, ◌≡◌, ◌<◌, ◌≤◌, pos, List, length, All, IfSome, ℤ}
use Rattle.site_types.specs.declared.units.TheConstants.{TICKS_PER_SECOND, LENGTH_UNITS_PER_METRE}
use Rattle.site_types.specs.Limits.{IsWithin, IsIn, IsLevel, IsHeight, AreNumbers, IsPairs}
use Rattle.site_types.specs.declared.ranges.TheConstants.{DAY_SECONDS, CYCLE_SECONDS, QNH_FEET, CODES, FILE_NAME_LENGTH, CONFIRM_CYCLES, HOLD_CYCLES, SET_COUNT, LOOK_SECONDS, SEPARATION_METRES, SEPARATION_FEET, SPLIT_FEET, REGION_COUNT, VOLUME_COUNT, LAYER_FEET, POINTS, ACTIVE_TIMES, FUNNEL_COUNT, PLACE_METRES, DIRECTION, ELEVATION_FEET, REACH_METRES, CAPTURE_FEET, HALF_METRES, SIDE_METRES, BASE_FEET, RISE_FEET}
use Rattle.site_types.specs.declared.airspace.Region.{Region}
use Rattle.site_types.specs.declared.airspace.Volume.{Volume}
use Rattle.site_types.specs.declared.funnel.Funnel.{Funnel}
use Rattle.site_types.specs.declared.site.Confirm.{Confirm}
use Rattle.site_types.specs.declared.site.Set.{Set}
use Rattle.site_types.specs.declared.site.Site.{Site}

-- Mode 3/A codes, so many
abbrev pub IsCodes : List ℕ → Type 0
IsCodes codes = AreNumbers CODES codes

-- the name of a file, so long
abbrev pub IsFileName : List ℕ → Type 0
IsFileName name = IsWithin FILE_NAME_LENGTH (pos (length name))

-- m of n, and the hold, in range
pub record IsConfirm (confirm : Confirm) : Type 0 where
  pub n : IsWithin CONFIRM_CYCLES (pos confirm.n)
  pub some : 1 ≤ confirm.m
  pub m : confirm.m ≤ confirm.n
  pub hold : IsWithin HOLD_CYCLES (pos confirm.hold)

-- a parameter set in range
pub record IsSet (set : Set) : Type 0 where
  pub look : All (IsIn LOOK_SECONDS TICKS_PER_SECOND) set.look
  pub h : IsIn SEPARATION_METRES LENGTH_UNITS_PER_METRE set.h
  pub v_low : IsHeight SEPARATION_FEET set.v_low
  pub v_high : IsHeight SEPARATION_FEET set.v_high
  pub split : IsHeight SPLIT_FEET set.split
  pub now_h : IsIn SEPARATION_METRES LENGTH_UNITS_PER_METRE set.now_h
  pub now_v_low : IsHeight SEPARATION_FEET set.now_v_low
  pub now_v_high : IsHeight SEPARATION_FEET set.now_v_high
  pub urgent : IsIn LOOK_SECONDS TICKS_PER_SECOND set.urgent

-- parameter sets in range, so many
pub record IsSets (sets : List Set) : Type 0 where
  pub count : IsWithin SET_COUNT (pos (length sets))
  pub each : All IsSet sets

-- the points of a polygon
abbrev pub IsPolygon : List (ℤ × ℤ) → Type 0
IsPolygon points = IsPairs POINTS points

-- from when to when a volume is active
abbrev pub AreTimes : List (ℤ × ℤ) → Type 0
AreTimes times = IsPairs ACTIVE_TIMES times

-- a region in range, where there are so many sets
pub record IsRegion (sets : ℕ) (region : Region) : Type 0 where
  pub set : region.set < sets
  pub floor : IsHeight LAYER_FEET region.floor
  pub ceiling : IsHeight LAYER_FEET region.ceiling
  pub points : IsPolygon region.points

-- regions in range, so many
pub record AreRegions (sets : ℕ) (regions : List Region) : Type 0 where
  pub count : IsWithin REGION_COUNT (pos (length regions))
  pub each : All (IsRegion sets) regions

-- a volume in range
pub record IsVolume (volume : Volume) : Type 0 where
  pub floor : IsHeight LAYER_FEET volume.floor
  pub ceiling : IsHeight LAYER_FEET volume.ceiling
  pub points : IsPolygon volume.points
  pub active : IfSome volume.active AreTimes

-- volumes in range, so many
pub record AreVolumes (volumes : List Volume) : Type 0 where
  pub count : IsWithin VOLUME_COUNT (pos (length volumes))
  pub each : All IsVolume volumes

-- a funnel in range
pub record IsFunnel (funnel : Funnel) : Type 0 where
  pub x : IsIn PLACE_METRES LENGTH_UNITS_PER_METRE funnel.x
  pub y : IsIn PLACE_METRES LENGTH_UNITS_PER_METRE funnel.y
  pub dx : IsWithin DIRECTION funnel.dx
  pub dy : IsWithin DIRECTION funnel.dy
  pub directed : funnel.dx ≡ pos 0 → ¬ (funnel.dy ≡ pos 0)
  pub elevation : IsWithin ELEVATION_FEET funnel.elevation
  pub reach : IsWithin REACH_METRES funnel.reach
  pub ceiling : IsHeight CAPTURE_FEET funnel.ceiling
  pub capture_half : IsWithin HALF_METRES funnel.capture_half
  pub capture_side : IsWithin SIDE_METRES funnel.capture_side
  pub half : IsWithin HALF_METRES funnel.half
  pub side : IsWithin SIDE_METRES funnel.side
  pub low_base : IsWithin BASE_FEET funnel.low_base
  pub low_rise : IsWithin RISE_FEET funnel.low_rise
  pub high_base : IsWithin BASE_FEET funnel.high_base
  pub high_rise : IsWithin RISE_FEET funnel.high_rise

-- funnels in range, so many
pub record AreFunnels (funnels : List Funnel) : Type 0 where
  pub count : IsWithin FUNNEL_COUNT (pos (length funnels))
  pub each : All IsFunnel funnels

-- a site in range
pub record IsSite (site : Site) : Type 0 where
  pub sac : site.sac < 256
  pub sic : site.sic < 256
  pub start : IsIn DAY_SECONDS TICKS_PER_SECOND site.start
  pub period : IsIn CYCLE_SECONDS TICKS_PER_SECOND site.period
  pub timeout : IsIn CYCLE_SECONDS TICKS_PER_SECOND site.timeout
  pub qnh : IsLevel QNH_FEET site.qnh
  pub codes : IsCodes site.codes
  pub terrain : IfSome site.terrain IsFileName
  pub confirm : All IsConfirm site.confirm
  pub sets : IsSets site.sets
  pub regions : AreRegions (length site.sets) site.regions
  pub volumes : AreVolumes site.volumes
  pub funnels : AreFunnels site.funnels
