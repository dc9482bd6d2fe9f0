-- The steps of a walk over the ticks of a look-ahead: what each of them is to find (this project's profile).
use Rattle.std.specs.Prelude.{◌≡◌, Bool, false, IsTrue, int_lt, Option, MatchOption, ℤ, pos, ◌≤ℤ◌, ◌<ℤ◌}
use Rattle.tick_sets.specs.Inequalities.{IsLook, line_at}

-- ticks of a look-ahead: one of them, and one that isn't before it
pub record AreTicks (from to : ℤ) : Type 0 where
  pub first : IsLook from
  pub last : IsLook to
  pub order : from ≤ℤ to

-- at a tick a line is below a limit
abbrev pub is_below_limit : ℤ → ℤ → ℤ → ℤ → Bool
is_below_limit slope start limit t = int_lt (line_at slope start t) limit

-- a test fails at each tick of from..=to
abbrev pub FailsFrom : (ℤ → Bool) → ℤ → ℤ → Type 0
FailsFrom p from to = (t : ℤ) → from ≤ℤ t → t ≤ℤ to → p t ≡ false

-- t is the first of these ticks at which it passes
pub record IsFirstFrom (p : ℤ → Bool) (from to t : ℤ) : Type 0 where
  pub not_before : from ≤ℤ t
  pub not_after : t ≤ℤ to
  pub passes : IsTrue (p t)
  pub earlier : (s : ℤ) → from ≤ℤ s → s <ℤ t → p s ≡ false

-- what a search over these ticks finds: the first at which the test passes, or nothing where it fails at all of them
abbrev pub FindsFrom : (ℤ → Bool) → ℤ → ℤ → Option ℤ → Type 0
FindsFrom p from to found = MatchOption found (FailsFrom p from to) (IsFirstFrom p from to)

-- a tick of 0..=look before which the test fails
pub record IsStart (p : ℤ → Bool) (look start : ℤ) : Type 0 where
  pub ticks : AreTicks start look
  pub earlier : (t : ℤ) → pos 0 ≤ℤ t → t <ℤ start → p t ≡ false

-- where a walk is to start: at a tick before which the test fails, or nowhere where it fails at all of 0..=look
abbrev pub StartsAt : (ℤ → Bool) → ℤ → Option ℤ → Type 0
StartsAt p look start = MatchOption start (FailsFrom p (pos 0) look) (IsStart p look)
