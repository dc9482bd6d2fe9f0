-- The lines and the parabolas over ticks whose inequalities are solved, and the ranges in which each product of their numbers fits 128 bits (this project's profile).
use Rattle.std.specs.Prelude.{ℕ, ◌^◌, ◌<◌, ◌≡◌, unsigned_abs, ℤ, pos, ◌+ℤ◌, ◌*ℤ◌, ◌≤ℤ◌, ◌<ℤ◌}

-- the value of the line a*t + b at t
abbrev pub line_at : ℤ → ℤ → ℤ → ℤ
line_at a b t = a *ℤ t +ℤ b

-- the value of the parabola a*t*t + 2*b*t + c at t
abbrev pub parabola_at : ℤ → ℤ → ℤ → ℤ → ℤ
parabola_at a b c t = a *ℤ t *ℤ t +ℤ pos 2 *ℤ b *ℤ t +ℤ c

-- a last tick of a look-ahead
pub record IsLook (l : ℤ) : Type 0 where
  pub low : pos 0 ≤ℤ l
  pub high : l ≤ℤ pos 65535

-- the numbers of a line a*t + b
pub record IsLine (a b : ℤ) : Type 0 where
  pub slope : unsigned_abs a < 2 ^ 100
  pub start : unsigned_abs b < 2 ^ 100

-- the numbers of a parabola a*t*t + 2*b*t + c that doesn't bend downwards
pub record IsParabola (a b c : ℤ) : Type 0 where
  pub bend_low : pos 0 ≤ℤ a
  pub bend_high : a <ℤ pos (2 ^ 34)
  pub slope : unsigned_abs b < 2 ^ 51
  pub start : unsigned_abs c < 2 ^ 68

-- f is the parabola a*t*t + 2*b*t at each tick of 0..=l, raised by one number at all of them
pub record IsRaised (f : ℕ → ℕ) (a b l : ℤ) : Type 0 where
  pub by : ℤ
  pub at_each : (t : ℕ) → pos t ≤ℤ l → pos (f t) ≡ parabola_at a b by (pos t)
