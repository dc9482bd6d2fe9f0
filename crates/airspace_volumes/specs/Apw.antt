-- Area proximity warning: which tracks an airspace volume hits, and the figures of a hit (in outline after EUROCONTROL's
-- guidance material for APW; rules and numbers are this project's profile).
use Rattle.std.specs.Prelude.{ℕ, ◌≤◌, Bool, ◌&&◌, IsTrue, int_le, find, Option, None, option_map, ℤ, pos, ◌≤ℤ◌, if◌then◌else◌}
use Rattle.tick_sets.specs.Inequalities.{line_at}
use Rattle.tick_sets.specs.Searches.{hit_from, ticks_to}
use Rattle.tick_sets.specs.declared.TickHit.{TickHit}
use Rattle.site_types.specs.Looks.{look_of}
use Rattle.site_types.specs.declared.site.Set.{Set}
use Rattle.site_types.specs.declared.net.TheConstants.{APW}
use Rattle.track_motion.specs.declared.motion.Motion.{Motion}
use Rattle.polygon_plan.specs.Inside.{inside_at}
use Rattle.airspace_volumes.specs.Active.{is_active}
use Rattle.airspace_volumes.specs.Bounds.{PassesBy}
use Rattle.site_types.specs.declared.airspace.Volume.{Volume}

-- at a tick the level is from the floor to the ceiling, both included
abbrev pub is_in_band_at : Motion → Volume → ℤ → Bool
is_in_band_at m v t = int_le v.floor (line_at m.vz m.z t) && int_le (line_at m.vz m.z t) v.ceiling

-- at a tick the track is inside the volume: inside its polygon, and from its floor to its ceiling
abbrev pub is_inside_at : Motion → Volume → ℤ → Bool
is_inside_at m v t = inside_at v.points m t && is_in_band_at m v t

-- the first tick of the look-ahead at which it is
abbrev pub first_inside : Motion → Volume → ℕ → Option ℕ
first_inside m v look = find (λ t. is_inside_at m v (pos t)) (ticks_to look)

-- the hit of a track by a volume: there where the volume is active and the track is inside it at some tick of the look-ahead
abbrev pub apw_hit : Motion → Volume → ℤ → Set → Option TickHit
apw_hit m v time set = if is_active v time then option_map (λ t. hit_from set.urgent (pos t)) (first_inside m v (look_of APW set)) else None

-- at a tick the level is from the floor to the ceiling, as a fact
abbrev pub IsInBand : Motion → Volume → ℤ → Type 0
IsInBand m v t = (v.floor ≤ℤ line_at m.vz m.z t) × (line_at m.vz m.z t ≤ℤ v.ceiling)

-- so it is at some tick of the look-ahead
abbrev pub IsAheadInBand : Motion → Volume → ℕ → Type 0
IsAheadInBand m v look = (t : ℕ) × (t ≤ look) × IsInBand m v (pos t)

-- as far as it can be told without the polygon's edges: the volume is active, and the track comes into its band and doesn't pass by it
pub record CanBeHit (m : Motion) (v : Volume) (time : ℤ) (set : Set) : Type 0 where
  pub active : IsTrue (is_active v time)
  pub in_band : IsAheadInBand m v (look_of APW set)
  pub near : ¬ PassesBy v.points m (look_of APW set)
