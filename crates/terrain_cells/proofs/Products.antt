-- Products of signed numbers: that they spread over sums, and keep an order or turn it.
use Rattle.std.proofs.Common.{◌≡◌, ap, sym, ◌∙◌, ℕ, zero, suc, ◌*◌, ℤ, pos, negsuc, ◌+ℤ◌, ◌-ℤ◌, ◌*ℤ◌, ◌≤ℤ◌, arith, mul-le-mul_left}
use Rattle.std.proofs.lemmas.Int.{ints}
use borrow.Author.Differences.{up, down, le_out, sum_is_lem}

times_sum : (a b c : ℤ) → a *ℤ (b +ℤ c) ≡ a *ℤ b +ℤ a *ℤ c
times_sum a b c = omega (arith, ints, ap (λ (x : ℕ). up a * x) (sum_is_lem b c), ap (λ (x : ℕ). down a * x) (sum_is_lem b c))

pub times_next : (a b : ℤ) → a *ℤ (b +ℤ pos 1) ≡ a *ℤ b +ℤ a
times_next a b =
    let sum = times_sum a b (pos 1) in
    let one : a *ℤ pos 1 ≡ a = omega (arith, ints) in
    omega (arith, ints)

sum_times : (a b c : ℤ) → (b +ℤ c) *ℤ a ≡ b *ℤ a +ℤ c *ℤ a
sum_times a b c = omega (arith, ints, ap (λ (x : ℕ). up a * x) (sum_is_lem b c), ap (λ (x : ℕ). down a * x) (sum_is_lem b c))

pub minus_times : (p t : ℤ) → (pos 0 -ℤ p) *ℤ t ≡ pos 0 -ℤ p *ℤ t
minus_times p t =
    let whole : (p +ℤ (pos 0 -ℤ p)) *ℤ t ≡ p *ℤ t +ℤ (pos 0 -ℤ p) *ℤ t = sum_times t p (pos 0 -ℤ p) in
    let none : p +ℤ (pos 0 -ℤ p) ≡ pos 0 = omega (arith, ints) in
    let zero_times : pos 0 *ℤ t ≡ pos 0 = omega (arith, ints) in
    let empty : pos 0 ≡ p *ℤ t +ℤ (pos 0 -ℤ p) *ℤ t = sym (ap (λ (z : ℤ). z *ℤ t) none ∙ zero_times) ∙ whole in
    omega (arith, ints)

pub times_le : (k a b : ℤ) → pos 0 ≤ℤ k → a ≤ℤ b → (k *ℤ a) ≤ℤ (k *ℤ b)
times_le (pos n) a b low h = omega (arith, ints, mul-le-mul_left n (le_out a b h))
times_le (negsuc n) a b low h = absurd (omega (arith, ints))

pub times_ge : (k a b : ℤ) → k ≤ℤ pos 0 → a ≤ℤ b → (k *ℤ b) ≤ℤ (k *ℤ a)
times_ge (pos zero) a b high h = omega (arith, ints)
times_ge (pos (suc n)) a b high h = absurd (omega (arith, ints))
times_ge (negsuc n) a b high h = omega (arith, ints, mul-le-mul_left (suc n) (le_out a b h))
