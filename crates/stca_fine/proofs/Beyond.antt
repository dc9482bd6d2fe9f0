-- Distances along one axis that stay at a limit or beyond it.
use Rattle.std.proofs.Common.{◌≡◌, ◌∙◌, suc, ◌*◌, ◌^◌, ◌≤◌, ℤ, pos, negsuc, ◌+ℤ◌, ◌-ℤ◌, ◌*ℤ◌, neg_ℤ, ◌≤ℤ◌, ◌<ℤ◌, true, int_le, unsigned_abs, arith, mul-le-mul_left, w64, to_z, of_z}
use Rattle.std.specs.Int.{int_max, int_min}
use Rattle.std.proofs.Math.Nat.{mul-le-mul}
use Rattle.std.proofs.lemmas.Int.{ints, by_lt_z, clamps, unsigned_abs-mul}
use Rattle.tick_sets.specs.Inequalities.{IsLook, line_at}
use Rattle.stca_fine.specs.Relative.{IsDrift, StaysBeyond}
use Rattle.stca_fine.proofs.Apart.{as_is, difference_is}
use borrow.Author.Differences.{le_out}

-- ---- a product keeps an order, or turns it
times_le : (k a b : ℤ) → pos 0 ≤ℤ k → a ≤ℤ b → (k *ℤ a) ≤ℤ (k *ℤ b)
times_le (pos n) a b low h = omega (arith, ints, mul-le-mul_left n (le_out a b h))
times_le (negsuc n) a b low h = absurd (omega (arith, ints))

times_ge : (k a b : ℤ) → k <ℤ pos 0 → a ≤ℤ b → (k *ℤ b) ≤ℤ (k *ℤ a)
times_ge (pos n) a b high h = absurd (omega (arith, ints))
times_ge (negsuc n) a b high h = omega (arith, ints, mul-le-mul_left (suc n) (le_out a b h))

-- a line is at each tick between what it is at both ends
pub above_both : (u x l limit t : ℤ) → limit ≤ℤ x → limit ≤ℤ line_at u x l → pos 0 ≤ℤ t → t ≤ℤ l → limit ≤ℤ line_at u x t
above_both u x l limit t start end low high = by_lt_z u (pos 0)
    (λ down. let h = times_ge u t l down high in omega (arith, ints))
    (λ up. let h = times_le u (pos 0) t up low in omega (arith, ints))

pub below_both : (u x l limit t : ℤ) → x ≤ℤ limit → line_at u x l ≤ℤ limit → pos 0 ≤ℤ t → t ≤ℤ l → line_at u x t ≤ℤ limit
below_both u x l limit t start end low high = by_lt_z u (pos 0)
    (λ down. let h = times_ge u (pos 0) t down low in omega (arith, ints))
    (λ up. let h = times_le u t l up high in omega (arith, ints))

long_above : (x limit : ℤ) → limit ≤ℤ x → limit ≤ℤ pos (unsigned_abs x)
long_above x limit h = omega (arith, ints)

long_below : (x limit : ℤ) → x ≤ℤ neg_ℤ limit → limit ≤ℤ pos (unsigned_abs x)
long_below x limit h = omega (arith, ints)

pub beyond_above : (x u limit l : ℤ) → limit ≤ℤ x → limit ≤ℤ line_at u x l → StaysBeyond x u limit l
beyond_above x u limit l start end = λ t inside. long_above (line_at u x (pos t)) limit (above_both u x l limit (pos t) start end (omega (arith, ints)) inside)

pub beyond_below : (x u limit l : ℤ) → x ≤ℤ neg_ℤ limit → line_at u x l ≤ℤ neg_ℤ limit → StaysBeyond x u limit l
beyond_below x u limit l start end = λ t inside. long_below (line_at u x (pos t)) limit (below_both u x l (neg_ℤ limit) (pos t) start end (omega (arith, ints)) inside)

-- ---- what the code computes
line_bound : (x u l : ℤ) → IsDrift x u → IsLook l → unsigned_abs (line_at u x l) ≤ 2 ^ 34
line_bound x u l drift look =
    let apart = drift.apart in
    let low = look.low in
    let high = look.high in
    let ticks : unsigned_abs l ≤ 2 ^ 16 = omega (arith, ints) in
    let product : unsigned_abs (u *ℤ l) ≤ 2 ^ 16 * 2 ^ 16 = rw unsigned_abs-mul (mul-le-mul drift.speed ticks) in
    omega (arith, ints)

pub end_is : (x u l : ℤ) → IsDrift x u → IsLook l → to_z w64 (of_z w64 (to_z w64 (of_z w64 x) +ℤ to_z w64 (of_z w64 (to_z w64 (of_z w64 u) *ℤ to_z w64 (of_z w64 l))))) ≡ line_at u x l
end_is x u l drift look =
    let apart = drift.apart in
    let speed = drift.speed in
    let low = look.low in
    let high = look.high in
    let ticks : unsigned_abs l ≤ 2 ^ 16 = omega (arith, ints) in
    let product : unsigned_abs (u *ℤ l) ≤ 2 ^ 16 * 2 ^ 16 = rw unsigned_abs-mul (mul-le-mul speed ticks) in
    let bound = line_bound x u l drift look in
    rw (as_is x (omega arith), as_is u (omega arith), as_is l (omega arith), as_is (u *ℤ l) (omega arith)) (as_is (x +ℤ u *ℤ l) (omega (arith, ints)) ∙ omega (arith, ints))

-- the lesser of both ends is at a limit or above it, or the greater at its negative or below
pub ends_above : (x end least limit : ℤ) → least ≡ int_min x end → int_le limit least ≡ true → (limit ≤ℤ x) × (limit ≤ℤ end)
ends_above x end least limit is_least above = (omega (arith, ints, clamps), omega (arith, ints, clamps))

pub ends_below : (x end greatest limit : ℤ) → greatest ≡ int_max x end → int_le greatest (pos 0 -ℤ limit) ≡ true → (x ≤ℤ neg_ℤ limit) × (end ≤ℤ neg_ℤ limit)
ends_below x end greatest limit is_greatest below = (omega (arith, ints, clamps), omega (arith, ints, clamps))

-- a distance and its change between two tracks
pub drift_between : (p q u v : ℤ) → unsigned_abs p ≤ 2 ^ 32 → unsigned_abs q ≤ 2 ^ 32 → unsigned_abs u ≤ 2 ^ 15 → unsigned_abs v ≤ 2 ^ 15 →
    IsDrift (to_z w64 (of_z w64 (to_z w64 (of_z w64 q) -ℤ to_z w64 (of_z w64 p)))) (to_z w64 (of_z w64 (to_z w64 (of_z w64 v) -ℤ to_z w64 (of_z w64 u))))
drift_between p q u v p_in q_in u_in v_in = rw (difference_is q p q_in p_in, difference_is v u (omega arith) (omega arith)) (record { apart = omega (arith, ints); speed = omega (arith, ints) })
