-- A place along an axis that changes evenly is between its first and its last.
use Rattle.std.proofs.Common.{◌≡◌, ℤ, pos, true, int_le, int_lt, sym, ◌≤ℤ◌, ◌<ℤ◌, unsigned_abs, arith}
use Rattle.std.proofs.lemmas.Int.{ints, by_lt_z}
use Rattle.tick_sets.specs.Inequalities.{IsLook, line_at}
use Rattle.airspace_volumes.specs.Bounds.{StaysBefore, StaysBehind}
use Rattle.airspace_volumes.proofs.Products.{times_ge, times_le}

-- ---- a test and its fact
pub lt_fact : (x y : ℤ) → int_lt x y ≡ true → x <ℤ y
lt_fact x y h = omega (arith, ints)

pub le_fact : (x y : ℤ) → int_le x y ≡ true → x ≤ℤ y
le_fact x y h = omega (arith, ints)

pub lt_true : (x y : ℤ) → x <ℤ y → int_lt x y ≡ true
lt_true x y h = sym (omega (arith, ints))

pub le_true : (x y : ℤ) → x ≤ℤ y → int_le x y ≡ true
le_true x y h = sym (omega (arith, ints))

-- ---- before a bound, and behind it
before_both : (u x l bound t : ℤ) → x <ℤ bound → line_at u x l <ℤ bound → pos 0 ≤ℤ t → t ≤ℤ l → line_at u x t <ℤ bound
before_both u x l bound t start end low high = by_lt_z u (pos 0)
    (λ down. let h = times_ge u (pos 0) t down low in omega (arith, ints))
    (λ up. let h = times_le u t l up high in omega (arith, ints))

behind_both : (u x l bound t : ℤ) → bound ≤ℤ x → bound ≤ℤ line_at u x l → pos 0 ≤ℤ t → t ≤ℤ l → bound ≤ℤ line_at u x t
behind_both u x l bound t start end low high = by_lt_z u (pos 0)
    (λ down. let h = times_ge u t l down high in omega (arith, ints))
    (λ up. let h = times_le u (pos 0) t up low in omega (arith, ints))

pub before_from : (x u bound l : ℤ) → IsLook l → x <ℤ bound → line_at u x l <ℤ bound → StaysBefore x u bound (unsigned_abs l)
before_from x u bound l look start end = λ t inside. let low = look.low in before_both u x l bound (pos t) start end (omega (arith, ints)) (omega (arith, ints))

pub behind_from : (x u bound l : ℤ) → IsLook l → bound ≤ℤ x → bound ≤ℤ line_at u x l → StaysBehind x u bound (unsigned_abs l)
behind_from x u bound l look start end = λ t inside. let low = look.low in behind_both u x l bound (pos t) start end (omega (arith, ints)) (omega (arith, ints))

last_is : (l : ℤ) → IsLook l → pos (unsigned_abs l) ≡ l
last_is l look = let low = look.low in omega (arith, ints)

pub before_ends : (x u bound l : ℤ) → IsLook l → StaysBefore x u bound (unsigned_abs l) → (x <ℤ bound) × (line_at u x l <ℤ bound)
before_ends x u bound l look stays =
    let first = stays 0 (omega arith) in
    let last = rw (last_is l look) at (stays (unsigned_abs l) (omega arith)) in
    (omega (arith, ints), last)

pub behind_ends : (x u bound l : ℤ) → IsLook l → StaysBehind x u bound (unsigned_abs l) → (bound ≤ℤ x) × (bound ≤ℤ line_at u x l)
behind_ends x u bound l look stays =
    let first = stays 0 (omega arith) in
    let last = rw (last_is l look) at (stays (unsigned_abs l) (omega arith)) in
    (omega (arith, ints), last)
