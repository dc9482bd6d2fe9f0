-- Which rows of a table a net looks at, and with which parameter set (this project's profile).
use Rattle.std.specs.Prelude.{ℕ, ◌==◌, Bool, false, ◌&&◌, not, int_le, List, find, Option, Some, None, ℤ, if◌then◌else◌}
use Rattle.std.specs.List.{filter_map, list_any, slice_get}
use Rattle.std.specs.Option.{option_and_then, option_map, option_map_or}
use Rattle.site_types.specs.declared.net.Net.{Net}
use Rattle.site_types.specs.Nets.{enables}
use Rattle.polygon_plan.specs.Inside.{inside}
use Rattle.site_types.specs.declared.airspace.Region.{Region}
use Rattle.site_types.specs.declared.site.Site.{Site}
use Rattle.track_motion.specs.declared.motion.Motion.{Motion}
use Rattle.track_motion.specs.declared.rank.Stamped.{Stamped}
use Rattle.track_motion.specs.declared.track.Track.{Track}
use Rattle.track_motion.specs.Motions.{motion_at}
use Rattle.track_table.specs.declared.table.Frozen.{Frozen}
use Rattle.cycle_workers.specs.declared.movers.Mover.{Mover}

-- a region holds the place and the level of a motion at tick 0
abbrev pub is_in_region : Motion → Region → Bool
is_in_region m r = inside r.points m.x m.y && int_le r.floor m.z && int_le m.z r.ceiling

-- the number of a row's parameter set: that of the first region in file order that holds it, else 0, the site's first
abbrev pub set_of : Site → Motion → ℕ
set_of site m = option_map_or (λ r. r.set) (find (is_in_region m) site.regions) 0

-- a parameter set enables a net
abbrev pub is_enabled : Site → Net → ℕ → Bool
is_enabled site net set = option_map_or (enables net) (slice_get site.sets set) false

-- a code that the site leaves out of the nets
abbrev pub is_left_out : Site → Option ℕ → Bool
is_left_out site code = option_map_or (λ c. list_any (λ d. d == c) site.codes) code false

-- a track that the nets look at: it isn't tentative and isn't simulated, and its code isn't left out
abbrev pub is_watched : Site → Track → Bool
is_watched site track = not track.tentative && not track.simulated && not (is_left_out site track.code)

-- a watched row that has a level, with its motion from the table's time on and its set
abbrev pub watched_of : Site → ℤ → Stamped → Option Mover
watched_of site time row =
    if is_watched site row.track
    then option_map (λ motion. record { key = row.track.key; motion = motion; set = set_of site motion }) (motion_at row time)
    else None

-- a mover, where its set enables the net
abbrev pub if_enabled : Site → Net → Mover → Option Mover
if_enabled site net m = if is_enabled site net m.set then Some m else None

-- those of the movers whose set enables the net
abbrev pub enabled : Site → Net → List Mover → List Mover
enabled site net all = filter_map (if_enabled site net) all

-- an eligible row: watched, with a level, and of a set that enables the net
abbrev pub mover_of : Site → Net → ℤ → Stamped → Option Mover
mover_of site net time row = option_and_then (if_enabled site net) (watched_of site time row)

-- the watched rows of a table that have a level, in key order
abbrev pub watched : Site → Frozen → List Mover
watched site frozen = filter_map (watched_of site frozen.time) frozen.rows

-- the eligible rows of a table, in key order
abbrev pub movers : Site → Net → Frozen → List Mover
movers site net frozen = filter_map (mover_of site net frozen.time) frozen.rows
