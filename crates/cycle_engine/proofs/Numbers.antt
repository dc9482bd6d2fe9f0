-- The number of a cycle fits 64 bits where its time does.
use Rattle.std.proofs.Common.{◌≡◌, ℕ, ◌+◌, ◌*◌, ◌<◌, ◌≤◌, ℤ, pos, ◌≤ℤ◌, arith}
use Rattle.std.proofs.lemmas.Int.{ints}
use Rattle.track_table.specs.Times.{cycle_time}

product_rises : (p m n : ℕ) → m ≤ n → p * m ≤ p * n
product_rises p m n rises = grind arith

pub next_fits : (start period time : ℤ) (next : ℕ) → pos 0 ≤ℤ start → pos 1 ≤ℤ period → time ≡ cycle_time start period next → time ≤ℤ pos 9223372036854775807 → next + 1 < 18446744073709551616
next_fits start (pos p) time next low some at high = let products = product_rises (next + 1) 1 p (omega (arith, ints)) in omega (arith, ints)
next_fits start _ time next low some at high = absurd (omega (arith, ints))
