-- Approach path monitor: which tracks an approach funnel hits, and the figures of a hit (in outline after EUROCONTROL's
-- guidance material for APM; rules and numbers are this project's profile).
use Rattle.std.specs.Prelude.{ℕ, Bool, ◌&&◌, ◌||◌, int_le, int_lt, find, Option, None, option_map, unsigned_abs, ℤ, pos, ◌+ℤ◌, ◌-ℤ◌, ◌*ℤ◌, neg_ℤ, if◌then◌else◌}
use Rattle.tick_sets.specs.Searches.{ticks_to}
use Rattle.site_types.specs.Looks.{look_of}
use Rattle.site_types.specs.declared.funnel.Funnel.{Funnel}
use Rattle.site_types.specs.declared.site.Set.{Set}
use Rattle.site_types.specs.declared.net.TheConstants.{APM}
use Rattle.site_types.specs.declared.units.TheConstants.{LENGTH_UNITS_PER_METRE}
use Rattle.track_motion.specs.declared.motion.Motion.{Motion}
use Rattle.approach_funnel.specs.declared.hit.FunnelHit.{FunnelHit}
use Rattle.approach_funnel.specs.declared.units.TheConstants.{RUN_LENGTH, RUN_METRES, RUN_SHARE, STEP_FEET, STEP_HEIGHT, STEP_SHARE}
use Rattle.approach_funnel.specs.Approaches.{along, altitude, distance, length_of, offset}

-- A distance d and an offset c have the length N of the landing direction in them: d/N and c/N are in length units, of
-- which 512 are a metre. A side is `half` metres from the centre line at the threshold, and `side` metres more for each
-- run of 10,000 m, which are 5,120,000 length units, before it. So the track is farther to the right than that where
--     c/N > 512*half + side*(d/N)/10,000,   and times 10,000*N:   10,000*c > 5,120,000*N*half + side*d.
abbrev pub side_at : Funnel → ℤ → ℤ → ℤ → ℤ
side_at f half side d = RUN_LENGTH *ℤ length_of f *ℤ half +ℤ side *ℤ d

abbrev pub beside : ℤ → ℤ
beside c = RUN_METRES *ℤ c

-- Since 6,144 height units are 5 ft, an altitude A is 5*A/6,144 feet. A slope is `base` feet over the threshold's
-- elevation there, and rises by `rise` feet for each run before it. So the track is above it where
--     5*A/6,144 > elevation + base + rise*(d/N)/5,120,000,   and times 6,144*2,500*N, which is 3*5,120,000*N:
--     2,500*N*(5*A - 6,144*(elevation + base)) > 3*rise*d.
abbrev pub slope_at : ℤ → ℤ → ℤ
slope_at rise d = STEP_SHARE *ℤ rise *ℤ d

abbrev pub height_over : Funnel → ℤ → ℤ → ℤ
height_over f base a = STEP_FEET *ℤ a -ℤ STEP_HEIGHT *ℤ (f.elevation +ℤ base)

abbrev pub over : Funnel → ℤ → ℤ → ℤ
over f base a = RUN_SHARE *ℤ length_of f *ℤ height_over f base a

-- whether the track has not passed the threshold at a tick
abbrev pub is_before : Funnel → Motion → ℤ → Bool
is_before f m t = int_lt (pos 0) (distance f m t)

-- whether at a tick it is below the lower slope, above the upper one, or beside the funnel
abbrev pub is_below : Funnel → Motion → ℤ → Bool
is_below f m t = int_lt (over f f.low_base (altitude m t)) (slope_at f.low_rise (distance f m t))

abbrev pub is_above : Funnel → Motion → ℤ → Bool
is_above f m t = int_lt (slope_at f.high_rise (distance f m t)) (over f f.high_base (altitude m t))

abbrev pub is_left : Funnel → Motion → ℤ → Bool
is_left f m t = int_lt (side_at f f.half f.side (distance f m t)) (beside (neg_ℤ (offset f m t)))

abbrev pub is_right : Funnel → Motion → ℤ → Bool
is_right f m t = int_lt (side_at f f.half f.side (distance f m t)) (beside (offset f m t))

-- whether it deviates at a tick: it is before the threshold then, and one of these
abbrev pub is_deviating : Funnel → Motion → ℤ → Bool
is_deviating f m t = is_before f m t && (is_below f m t || is_above f m t || is_left f m t || is_right f m t)

-- whether at tick 0 it flies in the landing direction and is before the threshold
abbrev pub is_approaching : Funnel → Motion → Bool
is_approaching f m = int_lt (pos 0) (along f m.vx m.vy) && is_before f m (pos 0)

-- how far before the threshold the funnel begins
abbrev pub reach_of : Funnel → ℤ
reach_of f = LENGTH_UNITS_PER_METRE *ℤ f.reach *ℤ length_of f

-- whether at tick 0 it is not above the ceiling, and within reach of the threshold
abbrev pub is_in_reach : Funnel → Motion → Bool
is_in_reach f m = int_le (altitude m (pos 0)) f.ceiling && int_le (distance f m (pos 0)) (reach_of f)

-- whether at tick 0 it is within the sides of capture
abbrev pub is_in_sides : Funnel → Motion → Bool
is_in_sides f m =
    int_le (beside (pos (unsigned_abs (offset f m (pos 0))))) (side_at f f.capture_half f.capture_side (distance f m (pos 0)))

-- whether it is captured: all three
abbrev pub is_captured : Funnel → Motion → Bool
is_captured f m = is_approaching f m && is_in_reach f m && is_in_sides f m

-- the hit that begins at a tick: what holds then, and urgent where that is soon
abbrev pub hit_at : Funnel → Motion → Set → ℤ → FunnelHit
hit_at f m set t = record {
  first = t;
  below = is_below f m t;
  above = is_above f m t;
  left = is_left f m t;
  right = is_right f m t;
  urgent = int_le t set.urgent;
}

-- the first tick of the look-ahead at which it deviates
abbrev pub first_deviation : Funnel → Motion → ℕ → Option ℕ
first_deviation f m look = find (λ t. is_deviating f m (pos t)) (ticks_to look)

-- the hit of a track by a funnel: there where it is captured and deviates at some tick of the look-ahead
abbrev pub apm_hit : Motion → Funnel → Set → Option FunnelHit
apm_hit m f set = if is_captured f m then option_map (λ t. hit_at f m set (pos t)) (first_deviation f m (look_of APM set)) else None
