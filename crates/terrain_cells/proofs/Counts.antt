-- How many columns, or rows, end before a place: the quotient of the distance from the corner by the side, or all of them.
use Rattle.std.proofs.Common.{◌≡◌, ℕ, ℤ, pos, ◌+ℤ◌, ◌-ℤ◌, ◌*ℤ◌, ◌≤ℤ◌, ◌<ℤ◌, arith}
use Rattle.std.specs.Int.{int_min}
use Rattle.std.proofs.lemmas.Int.{ints, clamps}
use Rattle.tick_sets.specs.Steps.{IsQuotient}
use Rattle.terrain_cells.proofs.Products.{times_le}

pub counted_low : (d side q m : ℤ) (count : ℕ) → IsQuotient d side q → m ≡ int_min q (pos count) → pos 0 ≤ℤ m
counted_low d side q m count quotient least = let low = quotient.low in omega (arith, ints, clamps)

pub counted_few : (q m : ℤ) (count : ℕ) → m ≡ int_min q (pos count) → m ≤ℤ pos count
counted_few q m count least = omega (arith, ints, clamps)

pub counted_from : (corner side place q m : ℤ) (count : ℕ) → pos 0 ≤ℤ side → IsQuotient (place -ℤ corner) side q → m ≡ int_min q (pos count) → (corner +ℤ side *ℤ m) ≤ℤ place
counted_from corner side place q m count long quotient least =
    let below : m ≤ℤ q = omega (arith, ints, clamps) in
    let h = times_le side m q long below in
    let k = quotient.at_most in
    omega (arith, ints)

pub counted_before : (corner side place q m : ℤ) (count : ℕ) → IsQuotient (place -ℤ corner) side q → m ≡ int_min q (pos count) → m <ℤ pos count → place <ℤ (corner +ℤ side *ℤ (m +ℤ pos 1))
counted_before corner side place q m count quotient least few =
    let same : m ≡ q = omega (arith, ints, clamps) in
    let k = quotient.next_above in
    rw same (omega (arith, ints))
