-- What the steps towards the ticks of an inequality are given, and what they find: multiples of a step, a quotient, a root (this project's profile).
use Rattle.std.specs.Prelude.{◌^◌, ℤ, pos, ◌+ℤ◌, ◌-ℤ◌, ◌*ℤ◌, ◌≤ℤ◌, ◌<ℤ◌}
use Rattle.tick_sets.specs.Inequalities.{IsLook, line_at, parabola_at}

-- a step whose multiples are looked at over a look-ahead
pub record IsWalk (step l : ℤ) : Type 0 where
  pub low : pos 0 ≤ℤ step
  pub high : step <ℤ pos (2 ^ 35)
  pub look : IsLook l

-- t is the first of 0..=l whose multiple of the step reaches the bound, or one after l
pub record Reaches (step bound l t : ℤ) : Type 0 where
  pub not_before : pos 0 ≤ℤ t
  pub not_after : t ≤ℤ (l +ℤ pos 1)
  pub below_before : pos 0 <ℤ t → (step *ℤ (t -ℤ pos 1)) <ℤ bound
  pub reached : t ≤ℤ l → bound ≤ℤ (step *ℤ t)

-- t is the last of 0..=l whose multiple of the step is within the bound, or one before 0
pub record StaysWithin (step bound l t : ℤ) : Type 0 where
  pub not_before : pos 0 ≤ℤ (t +ℤ pos 1)
  pub not_after : t ≤ℤ l
  pub within : pos 0 ≤ℤ t → (step *ℤ t) ≤ℤ bound
  pub above_after : t <ℤ l → bound <ℤ (step *ℤ (t +ℤ pos 1))

-- a number that isn't negative, over one that is positive
pub record IsFraction (dividend divisor : ℤ) : Type 0 where
  pub dividend_low : pos 0 ≤ℤ dividend
  pub divisor_low : pos 0 <ℤ divisor

-- such a fraction whose quotient is a tick before l
pub record IsFractionBefore (dividend divisor l : ℤ) : Type 0 where
  pub fraction : IsFraction dividend divisor
  pub before : dividend <ℤ (divisor *ℤ l)

-- the quotient of a fraction, rounded down
pub record IsQuotient (dividend divisor quotient : ℤ) : Type 0 where
  pub low : pos 0 ≤ℤ quotient
  pub at_most : (divisor *ℤ quotient) ≤ℤ dividend
  pub next_above : dividend <ℤ (divisor *ℤ (quotient +ℤ pos 1))

-- a times the value of a parabola is the square of a*t + b, less this
abbrev pub discriminant : ℤ → ℤ → ℤ → ℤ
discriminant a b c = b *ℤ b -ℤ a *ℤ c

-- the square of a*t + b is below that; where the parabola bends, it is below 0 there
abbrev pub IsNearVertex : ℤ → ℤ → ℤ → ℤ → Type 0
IsNearVertex a b c t = (line_at a b t *ℤ line_at a b t) <ℤ discriminant a b c

-- the parabola isn't below 0 at any tick of 0..=l
abbrev pub StaysAbove : ℤ → ℤ → ℤ → ℤ → Type 0
StaysAbove a b c l = (t : ℤ) → pos 0 ≤ℤ t → t ≤ℤ l → pos 0 ≤ℤ parabola_at a b c t

-- the greatest number whose square is below another
pub record IsRootBelow (square root : ℤ) : Type 0 where
  pub low : pos 0 ≤ℤ root
  pub high : root <ℤ pos (2 ^ 52)
  pub below : (root *ℤ root) <ℤ square
  pub next_not_below : square ≤ℤ ((root +ℤ pos 1) *ℤ (root +ℤ pos 1))
