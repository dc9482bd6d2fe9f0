-- The root of a number rounded down, and the tick at which something is least (this project's profile).
use Rattle.std.specs.Prelude.{ℕ, ◌+◌, ◌*◌, zero, suc, nat_le, nat_lt, if◌then◌else◌}

-- the greatest number whose square is at most n
unfoldable pub root : ℕ → ℕ
root zero = zero
root (suc n) = if nat_le ((root n + 1) * (root n + 1)) (suc n) then root n + 1 else root n

-- the least tick of 0..=last at which f is least
unfoldable pub least_tick_of : (ℕ → ℕ) → ℕ → ℕ
least_tick_of f zero = zero
least_tick_of f (suc last) = if nat_lt (f (suc last)) (f (least_tick_of f last)) then suc last else least_tick_of f last
