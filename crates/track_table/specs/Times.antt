-- Times in ticks of 1/128 s that go on over midnight, and cycles of one length, one after the other (this project's profile).
use Rattle.std.specs.Prelude.{◌≡◌, ℕ, ◌+◌, ◌/◌, ◌^◌, ℤ, pos, neg_ℤ, ◌+ℤ◌, ◌-ℤ◌, ◌*ℤ◌, ◌≤ℤ◌, ◌<ℤ◌, unsigned_abs}
use Rattle.std.specs.Int.{int_rem_euclid}
use Rattle.track_motion.specs.declared.motion.TheConstants.{LONGEST_AGE}
use Rattle.track_motion.specs.declared.track.TheConstants.{TICKS_PER_DAY}

-- ticks in a day, and in half of one
abbrev pub day : ℤ
day = pos TICKS_PER_DAY

abbrev pub half_day : ℤ
half_day = pos (TICKS_PER_DAY / 2)

-- the one time of this time of day from half a day before the present one on and less than half a day after it
abbrev pub at_near : ℤ → ℕ → ℤ
at_near present time = (present -ℤ half_day) +ℤ int_rem_euclid (pos time -ℤ (present -ℤ half_day)) day

-- a time that is whole days from a time of day, and as near to the present one
pub record IsNear (present : ℤ) (time : ℕ) (at : ℤ) : Type 0 where
  pub low : (present -ℤ half_day) ≤ℤ at
  pub high : at <ℤ (present +ℤ half_day)
  pub days : ℤ
  pub same : at ≡ pos time +ℤ days *ℤ day

-- a time that leaves room to add and to subtract in 64 bits
pub record IsTime (time : ℤ) : Type 0 where
  pub low : neg_ℤ (pos (2 ^ 62)) ≤ℤ time
  pub high : time <ℤ pos (2 ^ 62)

-- cycles that begin at a time, each at least a tick long
pub record AreCycles (start period : ℤ) : Type 0 where
  pub begin : IsTime start
  pub last : pos 1 ≤ℤ period

-- cycles that begin at a time of day, each at least a tick long and no longer than tracks are moved on
pub record AreDayCycles (start period : ℤ) : Type 0 where
  pub start_low : pos 0 ≤ℤ start
  pub start_high : start <ℤ day
  pub period_low : pos 1 ≤ℤ period
  pub period_high : period ≤ℤ pos LONGEST_AGE

-- when a cycle ends and its table is taken; cycles are numbered from 0
abbrev pub cycle_time : ℤ → ℤ → ℕ → ℤ
cycle_time start period cycle = start +ℤ pos (cycle + 1) *ℤ period

-- the cycle that a time at or after the start falls into
abbrev pub window_of : ℤ → ℤ → ℤ → ℕ
window_of start period time = unsigned_abs (time -ℤ start) / unsigned_abs period
