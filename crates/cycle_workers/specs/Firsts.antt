-- How soon a row is hit (this project's profile).
use Rattle.std.specs.Prelude.{ℕ, ◌≡◌, ◌≤◌, ℤ, pos}

-- a tick of a look-ahead
abbrev pub IsSoon : ℤ → Type 0
IsSoon first = (t : ℕ) × (t ≤ 65535) × (first ≡ pos t)
