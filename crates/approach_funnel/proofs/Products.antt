-- Products of signed numbers: how they spread over sums, and how far from 0 they are.
use Rattle.std.proofs.Common.{◌≡◌, ap, ◌∙◌, ℕ, ◌+◌, ◌*◌, ◌≤◌, ℤ, ◌+ℤ◌, ◌*ℤ◌, neg_ℤ, unsigned_abs, arith}
use Rattle.std.proofs.lemmas.Int.{ints, unsigned_abs-mul}
use Rattle.std.proofs.Math.Nat.{mul-le-mul}
use lib.IntN.{*ℤ_comm}
use borrow.Author.Differences.{up, down, neg_is, sum_is_lem, product_is}

pub times_sum : (a b c : ℤ) → a *ℤ (b +ℤ c) ≡ a *ℤ b +ℤ a *ℤ c
times_sum a b c = omega (arith, ints, ap (λ (x : ℕ). up a * x) (sum_is_lem b c), ap (λ (x : ℕ). down a * x) (sum_is_lem b c))

pub sum_times : (a b c : ℤ) → (b +ℤ c) *ℤ a ≡ b *ℤ a +ℤ c *ℤ a
sum_times a b c = omega (arith, ints, ap (λ (x : ℕ). up a * x) (sum_is_lem b c), ap (λ (x : ℕ). down a * x) (sum_is_lem b c))

pub times_neg : (a b : ℤ) → a *ℤ neg_ℤ b ≡ neg_ℤ (a *ℤ b)
times_neg a b = omega (arith, ints, ap (λ (x : ℕ). up a * x) (neg_is b).0, ap (λ (x : ℕ). up a * x) (neg_is b).1, ap (λ (x : ℕ). down a * x) (neg_is b).0, ap (λ (x : ℕ). down a * x) (neg_is b).1)

pub neg_times : (a b : ℤ) → neg_ℤ b *ℤ a ≡ neg_ℤ (b *ℤ a)
neg_times a b = omega (arith, ints, ap (λ (x : ℕ). up a * x) (neg_is b).0, ap (λ (x : ℕ). up a * x) (neg_is b).1, ap (λ (x : ℕ). down a * x) (neg_is b).0, ap (λ (x : ℕ). down a * x) (neg_is b).1)

triple_is : (a b c : ℤ) → (up (a *ℤ (b *ℤ c)) ≡ up a * up b * up c + up a * down b * down c + down a * up b * down c + down a * down b * up c) × (down (a *ℤ (b *ℤ c)) ≡ up a * up b * down c + up a * down b * up c + down a * up b * up c + down a * down b * down c)
triple_is a b c = omega (arith, product_is a (b *ℤ c), ap (λ (x : ℕ). up a * x) (product_is b c).0, ap (λ (x : ℕ). up a * x) (product_is b c).1, ap (λ (x : ℕ). down a * x) (product_is b c).0, ap (λ (x : ℕ). down a * x) (product_is b c).1)

pub times_assoc : (a b c : ℤ) → (a *ℤ b) *ℤ c ≡ a *ℤ (b *ℤ c)
times_assoc a b c = *ℤ_comm (a *ℤ b) c ∙ omega (arith, ints, triple_is a b c, triple_is c a b)

-- for `simp`: a term as a sum of products, each of which leans to the right
pub ruleset spread = (times_sum, sum_times, times_neg, neg_times, times_assoc)

-- a product is within the product of the bounds
pub product_within : (a b : ℤ) (m n : ℕ) → unsigned_abs a ≤ m → unsigned_abs b ≤ n → unsigned_abs (a *ℤ b) ≤ m * n
product_within a b m n h k = rw unsigned_abs-mul (mul-le-mul h k)
