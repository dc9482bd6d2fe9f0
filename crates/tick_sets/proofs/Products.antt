-- Products of signed numbers: that they spread over sums, and keep an order.
use Rattle.std.proofs.Common.{◌≡◌, ℕ, zero, suc, ◌+◌, ◌*◌, ap, ◌∙◌, ℤ, pos, negsuc, ◌+ℤ◌, ◌*ℤ◌, neg_ℤ, ◌≤ℤ◌, arith, mul-le-mul_left}
use Rattle.std.proofs.lemmas.Int.{ints}
use lib.IntN.{*ℤ_comm}
use borrow.Author.Differences.{up, down, le_out, neg_is, sum_is_lem, product_is}

pub times_le : (k a b : ℤ) → pos 0 ≤ℤ k → a ≤ℤ b → (k *ℤ a) ≤ℤ (k *ℤ b)
times_le (pos n) a b low h = omega (arith, ints, mul-le-mul_left n (le_out a b h))
times_le (negsuc n) a b low h = absurd (omega (arith, ints))

pub times_ge : (k a b : ℤ) → k ≤ℤ pos 0 → a ≤ℤ b → (k *ℤ b) ≤ℤ (k *ℤ a)
times_ge (pos zero) a b high h = omega (arith, ints)
times_ge (pos (suc n)) a b high h = absurd (omega (arith, ints))
times_ge (negsuc n) a b high h = omega (arith, ints, mul-le-mul_left (suc n) (le_out a b h))

pub times_sum : (a b c : ℤ) → a *ℤ (b +ℤ c) ≡ a *ℤ b +ℤ a *ℤ c
times_sum a b c = omega (arith, ints, ap (λ (x : ℕ). up a * x) (sum_is_lem b c), ap (λ (x : ℕ). down a * x) (sum_is_lem b c))

pub sum_times : (a b c : ℤ) → (b +ℤ c) *ℤ a ≡ b *ℤ a +ℤ c *ℤ a
sum_times a b c = omega (arith, ints, ap (λ (x : ℕ). up a * x) (sum_is_lem b c), ap (λ (x : ℕ). down a * x) (sum_is_lem b c))

pub times_neg : (a b : ℤ) → a *ℤ neg_ℤ b ≡ neg_ℤ (a *ℤ b)
times_neg a b = omega (arith, ints, ap (λ (x : ℕ). up a * x) (neg_is b).0, ap (λ (x : ℕ). up a * x) (neg_is b).1, ap (λ (x : ℕ). down a * x) (neg_is b).0, ap (λ (x : ℕ). down a * x) (neg_is b).1)

pub neg_times : (a b : ℤ) → neg_ℤ b *ℤ a ≡ neg_ℤ (b *ℤ a)
neg_times a b = omega (arith, ints, ap (λ (x : ℕ). up a * x) (neg_is b).0, ap (λ (x : ℕ). up a * x) (neg_is b).1, ap (λ (x : ℕ). down a * x) (neg_is b).0, ap (λ (x : ℕ). down a * x) (neg_is b).1)

-- a product of three, in the parts of its factors
pub triple_is : (a b c : ℤ) → (up (a *ℤ (b *ℤ c)) ≡ up a * up b * up c + up a * down b * down c + down a * up b * down c + down a * down b * up c) × (down (a *ℤ (b *ℤ c)) ≡ up a * up b * down c + up a * down b * up c + down a * up b * up c + down a * down b * down c)
triple_is a b c = omega (arith, product_is a (b *ℤ c), ap (λ (x : ℕ). up a * x) (product_is b c).0, ap (λ (x : ℕ). up a * x) (product_is b c).1, ap (λ (x : ℕ). down a * x) (product_is b c).0, ap (λ (x : ℕ). down a * x) (product_is b c).1)

pub times_assoc : (a b c : ℤ) → (a *ℤ b) *ℤ c ≡ a *ℤ (b *ℤ c)
times_assoc a b c = *ℤ_comm (a *ℤ b) c ∙ omega (arith, ints, triple_is a b c, triple_is c a b)

-- for `simp`: a term as a sum of products, each of which leans to the right
pub ruleset spread = (times_sum, sum_times, times_neg, neg_times, times_assoc)

-- for `omega`, behind it: sums of products of up to three factors
pub ruleset products = (ints, triple_is)
