-- A search for the first tick of a look-ahead at which a test passes (this project's profile).
use Rattle.std.specs.Prelude.{◌≡◌, ℕ, ◌+◌, ◌≤◌, ◌<◌, Bool, false, IsTrue, int_le, List, Option, MatchOption, ℤ}
use Rattle.std.specs.List.{range_with_len}
use Rattle.tick_sets.specs.declared.TickHit.{TickHit}

-- each tick of a look-ahead, from tick 0 on
abbrev pub ticks_to : ℕ → List ℕ
ticks_to look = range_with_len 0 (look + 1)

-- the test fails at each tick of the look-ahead
abbrev pub FailsAhead : (ℕ → Bool) → ℕ → Type 0
FailsAhead p look = (t : ℕ) → t ≤ look → p t ≡ false

-- k is the first tick of the look-ahead at which it passes
pub record IsFirstPass (p : ℕ → Bool) (look k : ℕ) : Type 0 where
  pub ahead : k ≤ look
  pub passes : IsTrue (p k)
  pub earlier : (t : ℕ) → t < k → p t ≡ false

-- what a search over the look-ahead finds: its first pass, or nothing where there is none
abbrev pub Finds : (ℕ → Bool) → ℕ → Option ℕ → Type 0
Finds p look found = MatchOption found (FailsAhead p look) (IsFirstPass p look)

-- a hit from a tick on is urgent where that is soon
abbrev pub hit_from : ℤ → ℤ → TickHit
hit_from limit first = record { first = first; urgent = int_le first limit }
