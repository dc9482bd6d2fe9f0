-- The ticks at which a set of ticks begins, or has just ended: at each of them the number of sets that a tick is in turns from even to odd or back (this project's profile).
use Rattle.std.specs.Prelude.{◌≡◌, ℕ, ◌+◌, ◌%◌, ◌^◌, if◌then◌else◌, List, ℤ, pos, ◌<ℤ◌, int_le, count_by}
use Rattle.tick_sets.specs.declared.Ticks.{Ticks}
use Rattle.tick_sets.specs.Ticks.{has_tick, sets_with}

-- how many of the ends are at or before t
abbrev pub ends_by : List ℤ → ℤ → ℕ
ends_by ends t = count_by (λ end. int_le end t) ends

-- at each tick that fits 64 bits as many ends as sets, but for an even number
abbrev pub AreEndsOf : List Ticks → List ℤ → Type 0
AreEndsOf sets ends = (t : ℤ) → t <ℤ pos (2 ^ 63) → ends_by ends t % 2 ≡ sets_with sets t % 2

-- the ends of one more set
abbrev pub AddsEnds : List ℤ → List ℤ → Ticks → Type 0
AddsEnds old new ticks = (t : ℤ) → t <ℤ pos (2 ^ 63) → ends_by new t % 2 ≡ (ends_by old t + (if has_tick t ticks then 1 else 0)) % 2

-- an odd number of ends is at or before t
abbrev pub IsAfterOddEnds : List ℤ → ℤ → Type 0
IsAfterOddEnds ends t = ends_by ends t % 2 ≡ 1
