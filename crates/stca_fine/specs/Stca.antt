-- Short term conflict alert: which pairs are hit, and the figures of a hit (in outline after EUROCONTROL's guidance
-- material for STCA; rules and numbers are this project's profile).
use Rattle.std.specs.Prelude.{ℕ, ◌≤◌, min, Bool, ◌&&◌, ◌||◌, int_le, find, Option, Some, option_map, ℤ, pos, ◌≤ℤ◌, if◌then◌else◌}
use Rattle.tick_sets.specs.Searches.{ticks_to}
use Rattle.site_types.specs.Looks.{look_of}
use Rattle.site_types.specs.declared.site.Set.{Set}
use Rattle.site_types.specs.declared.net.TheConstants.{STCA}
use Rattle.track_motion.specs.declared.motion.Motion.{Motion}
use Rattle.stca_fine.specs.declared.hit.StcaHit.{StcaHit}
use Rattle.stca_fine.specs.declared.hit.TheConstants.{LARGEST_CHS, LARGEST_SEPARATION}
use Rattle.stca_fine.specs.Relative.{RelativeMotion, relative, closest_tick, horizontal, vertical, is_within, is_closing}

-- a pair's vertical limit: the lower one where both levels at tick 0 are at or below the split
abbrev pub by_split : Motion → Motion → Set → ℤ → ℤ → ℤ
by_split a b set low high = if int_le a.z set.split && int_le b.z set.split then low else high

abbrev pub v_of : Motion → Motion → Set → ℤ
v_of a b set = by_split a b set set.v_low set.v_high

abbrev pub now_v_of : Motion → Motion → Set → ℤ
now_v_of a b set = by_split a b set set.now_v_low set.now_v_high

-- current proximity: at tick 0 within both limits, and not drawing apart
abbrev pub is_in_proximity : RelativeMotion → ℤ → ℤ → Bool
is_in_proximity r h v = is_within r h v 0 && is_closing r

abbrev pub is_current : Motion → Motion → Set → Bool
is_current a b set = is_in_proximity (relative a b) set.now_h (now_v_of a b set)

-- linear prediction: the first tick of the look-ahead at which both limits are met
abbrev pub first_within : RelativeMotion → ℤ → ℤ → ℕ → Option ℕ
first_within r h v look = find (is_within r h v) (ticks_to look)

abbrev pub first_predicted : Motion → Motion → Set → Option ℕ
first_predicted a b set = first_within (relative a b) set.h (v_of a b set) (look_of STCA set)

-- the first tick of the conflict: 0 in current proximity, else the first of linear prediction
abbrev pub first_tick : Motion → Motion → Set → Option ℕ
first_tick a b set = if is_current a b set then Some 0 else first_predicted a b set

-- the figures of a hit: now at tick 0, the minimum at the closest tick; each separation is at most what its field holds
abbrev pub figures_at : RelativeMotion → Set → Bool → ℕ → ℕ → StcaHit
figures_at r set current closest first = record {
  first = pos first;
  closest = pos closest;
  chs = min (horizontal r 0) LARGEST_CHS;
  mhs = min (horizontal r closest) LARGEST_SEPARATION;
  cvs = min (vertical r 0) LARGEST_SEPARATION;
  mvs = min (vertical r closest) LARGEST_SEPARATION;
  current = current;
  urgent = current || int_le (pos first) set.urgent;
}

abbrev pub figures : RelativeMotion → Set → Bool → ℕ → StcaHit
figures r set current first = figures_at r set current (closest_tick r (look_of STCA set)) first

-- the hit of a pair: there where current proximity holds now, or linear prediction at some tick of the look-ahead
abbrev pub stca_hit : Motion → Motion → Set → Option StcaHit
stca_hit a b set = option_map (figures (relative a b) set (is_current a b set)) (first_tick a b set)

-- a tick of the set's look-ahead
pub record IsAhead (set : Set) (tick : ℤ) : Type 0 where
  pub low : pos 0 ≤ℤ tick
  pub high : tick ≤ℤ pos (look_of STCA set)

-- the figures fit their fields
pub record IsInRoom (set : Set) (hit : StcaHit) : Type 0 where
  pub first : IsAhead set hit.first
  pub closest : IsAhead set hit.closest
  pub chs : hit.chs ≤ LARGEST_CHS
