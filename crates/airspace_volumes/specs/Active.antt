-- When an airspace volume is active (this project's profile).
use Rattle.std.specs.Prelude.{◌%◌, unsigned_abs, ℤ, pos, Bool, true, ◌&&◌, ◌||◌, int_le, int_lt, List, option_map, unwrap_or, if◌then◌else◌}
use Rattle.std.specs.List.{list_any}
use Rattle.track_motion.specs.declared.track.TheConstants.{TICKS_PER_DAY}
use Rattle.site_types.specs.declared.airspace.Volume.{Volume}

-- ticks since midnight, of a time that counts on
abbrev pub time_of_day : ℤ → ℤ
time_of_day time = pos (unsigned_abs time % TICKS_PER_DAY)

-- from the one time of the pair to before the other, over midnight where the other is earlier; at no time where they are equal
abbrev pub holds_time : ℤ × ℤ → ℤ → Bool
holds_time pair m = if int_lt pair.1 pair.0 then int_le pair.0 m || int_lt m pair.1 else int_le pair.0 m && int_lt m pair.1

-- some of the pairs hold a time of day
abbrev pub holds_some : List (ℤ × ℤ) → ℤ → Bool
holds_some times m = list_any (λ pair. holds_time pair m) times

-- where a volume has no list of times it is always active, else where some pair holds the time of day
abbrev pub is_active : Volume → ℤ → Bool
is_active v time = unwrap_or (option_map (λ times. holds_some times (time_of_day time)) v.active) true
