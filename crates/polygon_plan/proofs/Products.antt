-- Products of signed numbers: how they spread over sums, and their range in 128 bits.
use Rattle.std.proofs.Common.{◌≡◌, ℕ, suc, ◌+◌, ◌*◌, ◌-◌, ◌^◌, ap, sym, ◌∙◌, ℤ, pos, negsuc, ◌+ℤ◌, ◌-ℤ◌, ◌*ℤ◌, ◌≤ℤ◌, FitsSigned, arith, w64}
use Rattle.std.proofs.lemmas.Int.{ints}
use Rattle.std.proofs.lemmas.Nat.{mul-le}
use lib.IntN.{*ℤ_comm}
use borrow.Author.Differences.{up, down, product_is, sum_is_lem}

pub times_sum : (a b c : ℤ) → a *ℤ (b +ℤ c) ≡ a *ℤ b +ℤ a *ℤ c
times_sum a b c = omega (arith, ints, ap (λ (x : ℕ). up a * x) (sum_is_lem b c), ap (λ (x : ℕ). down a * x) (sum_is_lem b c))

pub sum_times : (a b c : ℤ) → (b +ℤ c) *ℤ a ≡ b *ℤ a +ℤ c *ℤ a
sum_times a b c = omega (arith, ints, ap (λ (x : ℕ). up a * x) (sum_is_lem b c), ap (λ (x : ℕ). down a * x) (sum_is_lem b c))

-- a product of three, in the parts of its factors
triple_is : (a b c : ℤ) → (up (a *ℤ (b *ℤ c)) ≡ up a * up b * up c + up a * down b * down c + down a * up b * down c + down a * down b * up c) × (down (a *ℤ (b *ℤ c)) ≡ up a * up b * down c + up a * down b * up c + down a * up b * up c + down a * down b * down c)
triple_is a b c = omega (arith, product_is a (b *ℤ c), ap (λ (x : ℕ). up a * x) (product_is b c).0, ap (λ (x : ℕ). up a * x) (product_is b c).1, ap (λ (x : ℕ). down a * x) (product_is b c).0, ap (λ (x : ℕ). down a * x) (product_is b c).1)

pub times_assoc : (a b c : ℤ) → (a *ℤ b) *ℤ c ≡ a *ℤ (b *ℤ c)
times_assoc a b c = *ℤ_comm (a *ℤ b) c ∙ omega (arith, ints, triple_is a b c, triple_is c a b)

pub times_turned : (a b c : ℤ) → (a *ℤ b) *ℤ c ≡ (a *ℤ c) *ℤ b
times_turned a b c = times_assoc a b c ∙ ap (λ (z : ℤ). a *ℤ z) (*ℤ_comm b c) ∙ sym (times_assoc a c b)

pub less_times : (p q t : ℤ) → (pos 0 -ℤ (p -ℤ q)) *ℤ t ≡ q *ℤ t -ℤ p *ℤ t
less_times p q t =
    let whole : q *ℤ t ≡ (pos 0 -ℤ (p -ℤ q)) *ℤ t +ℤ p *ℤ t = (let same : q ≡ (pos 0 -ℤ (p -ℤ q)) +ℤ p = omega (arith, ints) in ap (λ (z : ℤ). z *ℤ t) same ∙ sum_times t (pos 0 -ℤ (p -ℤ q)) p) in
    omega (arith, ints)

pub minus_times : (p t : ℤ) → (pos 0 -ℤ p) *ℤ t ≡ pos 0 -ℤ p *ℤ t
minus_times p t =
    let whole : (p +ℤ (pos 0 -ℤ p)) *ℤ t ≡ p *ℤ t +ℤ (pos 0 -ℤ p) *ℤ t = sum_times t p (pos 0 -ℤ p) in
    let none : p +ℤ (pos 0 -ℤ p) ≡ pos 0 = omega (arith, ints) in
    let empty : pos 0 ≡ p *ℤ t +ℤ (pos 0 -ℤ p) *ℤ t = (let zero_times : pos 0 *ℤ t ≡ pos 0 = omega (arith, ints) in sym (ap (λ (z : ℤ). z *ℤ t) none ∙ zero_times) ∙ whole) in
    omega (arith, ints)

-- ---- two numbers of 64 bits
pub record IsWide (product : ℤ) : Type 0 where
  pub low : negsuc (2 ^ 126 - 2 ^ 63 - 1) ≤ℤ product
  pub high : product ≤ℤ pos (2 ^ 126)

pub product_wide : (a b : ℤ) → FitsSigned w64 a → FitsSigned w64 b → IsWide (a *ℤ b)
product_wide (pos a) (pos b) fits_a fits_b =
    let h = mul-le a b (2 ^ 63 - 1) (2 ^ 63 - 1) (omega (arith, ints)) (omega (arith, ints)) in
    record { low = omega (arith, ints); high = omega (arith, ints) }
product_wide (pos a) (negsuc b) fits_a fits_b =
    let h = mul-le a (suc b) (2 ^ 63 - 1) (2 ^ 63) (omega (arith, ints)) (omega (arith, ints)) in
    record { low = omega (arith, ints); high = omega (arith, ints) }
product_wide (negsuc a) (pos b) fits_a fits_b =
    let h = mul-le (suc a) b (2 ^ 63) (2 ^ 63 - 1) (omega (arith, ints)) (omega (arith, ints)) in
    record { low = omega (arith, ints); high = omega (arith, ints) }
product_wide (negsuc a) (negsuc b) fits_a fits_b =
    let h = mul-le (suc a) (suc b) (2 ^ 63) (2 ^ 63) (omega (arith, ints)) (omega (arith, ints)) in
    record { low = omega (arith, ints); high = omega (arith, ints) }
