-- Minimum safe altitude warning: which tracks a terrain hits, and the figures of a hit (in outline after EUROCONTROL's guidance
-- material for MSAW; rules and numbers are this project's profile).
use Rattle.std.specs.Prelude.{ℕ, Bool, false, int_lt, find, Option, Some, None, option_map, ℤ, pos, ◌*ℤ◌}
use Rattle.tick_sets.specs.Inequalities.{line_at}
use Rattle.tick_sets.specs.Searches.{hit_from, ticks_to}
use Rattle.tick_sets.specs.declared.TickHit.{TickHit}
use Rattle.site_types.specs.Looks.{look_of}
use Rattle.site_types.specs.declared.site.Set.{Set}
use Rattle.site_types.specs.declared.net.TheConstants.{MSAW}
use Rattle.terrain_file.specs.declared.terrain.Terrain.{Terrain}
use Rattle.track_motion.specs.declared.motion.Motion.{Motion}
use Rattle.track_motion.specs.declared.motion.TheConstants.{HEIGHT_UNITS_PER_25_FEET}
use Rattle.terrain_cells.specs.Cells.{height_at}

-- at a tick the altitude is below a height in 25 ft
abbrev pub is_below_at : Motion → ℤ → ℤ → Bool
is_below_at m height t = int_lt (line_at m.vz m.alt t) (pos HEIGHT_UNITS_PER_25_FEET *ℤ height)

-- it is below a height that there may be
abbrev pub is_under_at : Motion → Option ℤ → ℤ → Bool
is_under_at m None t = false
is_under_at m (Some height) t = is_below_at m height t

-- at a tick the track is too low: its altitude is below the height of the cell that holds its place
abbrev pub is_too_low_at : Motion → Terrain → ℤ → Bool
is_too_low_at m terrain t = is_under_at m (height_at terrain (line_at m.vx m.x t) (line_at m.vy m.y t)) t

-- the first tick of the look-ahead at which it is
abbrev pub first_too_low : Motion → Terrain → ℕ → Option ℕ
first_too_low m terrain look = find (λ t. is_too_low_at m terrain (pos t)) (ticks_to look)

-- the hit of a track by a terrain: there where the track is too low at some tick of the look-ahead
abbrev pub msaw_hit : Motion → Terrain → Set → Option TickHit
msaw_hit m terrain set = option_map (λ t. hit_from set.urgent (pos t)) (first_too_low m terrain (look_of MSAW set))
