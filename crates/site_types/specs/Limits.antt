-- Limits of fields (this project's profile).
use Rattle.std.specs.Prelude.{ℕ, ◌≤◌, pos, List, length, All, ℤ, ◌≤ℤ◌, ◌-ℤ◌, ◌*ℤ◌}
use Rattle.site_types.specs.declared.limits.Limits.{Limits}
use Rattle.site_types.specs.declared.limits.ListLimits.{ListLimits}
use Rattle.site_types.specs.declared.limits.PairLimits.{PairLimits}
use Rattle.site_types.specs.declared.units.TheConstants.{HEIGHT_UNITS_PER_25_FEET, FEET_PER_LEVEL}

-- the limits from one number to another
abbrev pub from_to : ℤ → ℤ → Limits
from_to low high = record { low = low; high = high }

-- a number below 0
abbrev pub minus : ℕ → ℤ
minus n = pos 0 -ℤ pos n

-- the number is in range
pub record IsWithin (limits : Limits) (number : ℤ) : Type 0 where
  pub low : limits.low ≤ℤ number
  pub high : number ≤ℤ limits.high

-- in range, where the file's unit is so many of this one
pub record IsIn (limits : Limits) (units : ℤ) (value : ℤ) : Type 0 where
  pub low : (limits.low *ℤ units) ≤ℤ value
  pub high : value ≤ℤ (limits.high *ℤ units)

-- steps of 25 ft, in range in feet
pub record IsLevel (limits : Limits) (steps : ℤ) : Type 0 where
  pub low : limits.low ≤ℤ (steps *ℤ FEET_PER_LEVEL)
  pub high : (steps *ℤ FEET_PER_LEVEL) ≤ℤ limits.high

-- height units, in range in feet
pub record IsHeight (limits : Limits) (height : ℤ) : Type 0 where
  pub low : (limits.low *ℤ HEIGHT_UNITS_PER_25_FEET) ≤ℤ (height *ℤ FEET_PER_LEVEL)
  pub high : (height *ℤ FEET_PER_LEVEL) ≤ℤ (limits.high *ℤ HEIGHT_UNITS_PER_25_FEET)

-- numbers in range, so many
pub record AreNumbers (limits : ListLimits) (numbers : List ℕ) : Type 0 where
  pub count : IsWithin limits.count (pos (length numbers))
  pub each : All (λ number. number ≤ limits.highest) numbers

-- both numbers in range, where the file's unit is so many of theirs
pub record IsPair (limits : PairLimits) (pair : ℤ × ℤ) : Type 0 where
  pub first : IsIn limits.number (pos limits.units) pair.0
  pub second : IsIn limits.number (pos limits.units) pair.1

-- pairs in range, so many
pub record IsPairs (limits : PairLimits) (pairs : List (ℤ × ℤ)) : Type 0 where
  pub count : IsWithin limits.count (pos (length pairs))
  pub each : All (IsPair limits) pairs
