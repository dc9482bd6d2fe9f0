-- Newton's step towards a square root.
use Rattle.std.proofs.Common.{sym, refl, zero-lt-suc, ◌≡◌, ℕ, zero, suc, ◌+◌, ◌-◌, ◌*◌, ◌/◌, ◌%◌, ◌^◌, ◌<◌, ◌≤◌, ⊎_elim, arith, subst, ap, mul-le-mul_left, mul-le-mul_right, pow_mono, mul-pos, min, mul_comm, pow-suc, two-mul, ◌∙◌}
use lib.Count.{count_leading_zeros}
use Rattle.std.proofs.lemmas.Nat.{div_below, div-add-mod', mod_below, leading_length, pow-add, pow_pos, one_shl, shl_whole, mul-le, shr_below, shr_split, le-div}
use Rattle.std.proofs.lemmas.Bool.{cases_lt}

-- the product of two numbers is at most the square of half their sum
product_near : (x d p : ℕ) → p ≤ x + 2 * d → x * p ≤ (x + d) * (x + d)
product_near x d p h = omega (arith, mul-le-mul_left x h)

pub product_le : (x p z : ℕ) → x + p ≤ 2 * z → x * p ≤ z * z
product_le x p z h = ⊎_elim
    (λ below. let e : x + (z - x) ≡ z = omega arith in subst (λ (w : ℕ). x * p ≤ w * w) e (product_near x (z - x) p (omega arith)))
    (λ above. let e : p + (z - p) ≡ z = omega arith in subst (λ (w : ℕ). x * p ≤ w * w) e (omega (arith, product_near p (z - p) x (omega arith))))
    (cases_lt x z)

-- one step of Newton's is never below the root rounded down
pub step_above : (n x : ℕ) → 0 < x → n < ((x + n / x) / 2 + 1) * ((x + n / x) / 2 + 1)
step_above n x h =
    let near : x * (n / x + 1) ≤ ((x + n / x) / 2 + 1) * ((x + n / x) / 2 + 1) = product_le x (n / x + 1) ((x + n / x) / 2 + 1) (omega arith) in
    omega (arith, div-add-mod' n x, mod_below n x h)

-- and it falls as long as the number is above the root
pub step_below : (n x : ℕ) → n < x * x → (0 < x) × ((x + n / x) / 2 < x)
step_below n zero h = absurd (omega arith)
step_below n (suc x) h = (omega arith, omega (arith, div_below n (suc x) (suc x) (omega arith) h))

-- both, as the loops ask for them
pub step_keeps : (n x bound : ℕ) → n < x * x → x < bound → (n < ((x + n / x) / 2 + 1) * ((x + n / x) / 2 + 1)) × ((x + n / x) / 2 < bound)
step_keeps n x bound h b = let below = step_below n x h in (step_above n x below.0, omega (arith, below.1))

-- a power of two whose square covers the word, and the step from it
pub word_half : (n h : ℕ) → n < 2 ^ 64 → h ≡ (65 - count_leading_zeros 64 n) / 2 → (h ≤ 32) × (n < 2 ^ h * 2 ^ h)
word_half n h fits is =
    let (m, whole, above, _) = leading_length 64 n fits in
    let half : m ≤ h + h = omega arith in
    (omega arith, omega (arith, pow_mono half, pow-add 2 h h))

pub word_start : (n h : ℕ) → n < 2 ^ 64 → h ≡ (65 - count_leading_zeros 64 n) / 2 → (n < ((1 * 2 ^ h % 2 ^ 64 + n / 2 ^ h) / 2 + 1) * ((1 * 2 ^ h % 2 ^ 64 + n / 2 ^ h) / 2 + 1)) × ((1 * 2 ^ h % 2 ^ 64 + n / 2 ^ h) / 2 < 2 ^ 32)
word_start n h fits is =
    let (small, covers) = word_half n h fits is in
    let power : 1 * 2 ^ h % 2 ^ 64 ≡ 2 ^ h = one_shl h 64 (omega arith) in
    let below : n / 2 ^ h < 2 ^ h = div_below n (2 ^ h) (2 ^ h) (pow_pos h) covers in
    let top : 2 ^ h ≤ 2 ^ 32 = pow_mono small in
    rw power (step_above n (2 ^ h) (pow_pos h), omega arith)

pub word_sum_fits : (n h : ℕ) → n < 2 ^ 64 → h ≡ (65 - count_leading_zeros 64 n) / 2 → 1 * 2 ^ h % 2 ^ 64 + n / 2 ^ h < 2 ^ 64
word_sum_fits n h fits is =
    let (small, covers) = word_half n h fits is in
    let power : 1 * 2 ^ h % 2 ^ 64 ≡ 2 ^ h = one_shl h 64 (omega arith) in
    let below : n / 2 ^ h < 2 ^ h = div_below n (2 ^ h) (2 ^ h) (pow_pos h) covers in
    let top : 2 ^ h ≤ 2 ^ 32 = pow_mono small in
    rw power (omega arith)

-- what a shift by an even count leaves of a number with more than 64 bits: a word that is not 0
pub record LeadingShift (n h : ℕ) : Type 0 where
  pub zeros : count_leading_zeros 128 n ≤ 65
  pub some : 1 ≤ h
  pub few : h ≤ 32
  pub word : n / 2 ^ (2 * h) < 2 ^ 64
  pub leading : 1 ≤ n / 2 ^ (2 * h)

pub leading_shift : (n h : ℕ) → n < 2 ^ 128 → 2 ^ 64 ≤ n → h ≡ (65 - count_leading_zeros 128 n) / 2 → LeadingShift n h
leading_shift n h fits large is =
    let (m, whole, above, _) = leading_length 128 n fits in
    let long : 64 < m = ⊎_elim (λ l. l) (λ short. let small : 2 ^ m ≤ 2 ^ 64 = pow_mono short in absurd (omega arith)) (cases_lt 64 m) in
    let reach : m ≤ 64 + 2 * h = omega arith in
    let few : 2 * h ≤ 64 = omega arith in
    let power : 2 ^ (2 * h) ≤ 2 ^ 64 = pow_mono few in
    record {
      zeros = omega arith;
      some = omega arith;
      few = omega arith;
      word = shr_below n 64 (2 * h) (omega (arith, pow_mono reach));
      leading = le-div 1 n (2 ^ (2 * h)) (pow_pos (2 * h)) (omega arith);
    }

-- the root of what a shift leaves, one higher and shifted back, is above the root
pub start_above : (n h s : ℕ) → n / 2 ^ (2 * h) < (s + 1) * (s + 1) → n < ((s + 1) * 2 ^ h) * ((s + 1) * 2 ^ h)
start_above n h s lead =
    let e : 2 ^ (2 * h) ≡ 2 ^ h * 2 ^ h = ap (λ (k : ℕ). 2 ^ k) (two-mul h) ∙ pow-add 2 h h in
    let more : (n / 2 ^ (2 * h) + 1) * 2 ^ (2 * h) ≤ (s + 1) * (s + 1) * 2 ^ (2 * h) = mul-le-mul_right (2 ^ (2 * h)) (omega arith) in
    let covers : n < (s + 1) * (s + 1) * 2 ^ (2 * h) = omega (arith, shr_split n (2 * h), mod_below n (2 ^ (2 * h)) (pow_pos (2 * h))) in
    omega (arith, rw e at covers)

-- what follows the root of the leading bits, for the root of the whole: H is half of 2 ^ h, and low what is shifted out
lower_part : (n s r q H : ℕ) → 0 < s → n < (s * s + r + 1) * (2 * H * (2 * H)) → q ≡ (r + 1) * H / s → n < (s * (2 * H) + q + 1) * (s * (2 * H) + q + 1)
lower_part n s r q H positive covers q_is =
    let above : (r + 1) * H < s * (q + 1) = rw q_is (omega (arith, div-add-mod' ((r + 1) * H) s, mod_below ((r + 1) * H) s positive)) in
    let scaled : ((r + 1) * H + 1) * (4 * H) ≤ s * (q + 1) * (4 * H) = mul-le-mul_right (4 * H) (omega arith) in
    omega arith

-- the lesser of two numbers that are both not below the root
lesser_above : (n a b m : ℕ) → n < (a + 1) * (a + 1) → n < (b + 1) * (b + 1) → m ≡ min a b → n < (m + 1) * (m + 1)
lesser_above n a b m by_a by_b m_is = ⊎_elim
    (λ less. let e : m ≡ a = omega arith in rw e by_a)
    (λ more. let e : m ≡ b = omega arith in rw e by_b)
    (cases_lt a b)

positive_root : (n s : ℕ) → 1 ≤ n → n < (s + 1) * (s + 1) → 0 < s
positive_root n zero some next = absurd (omega arith)
positive_root n (suc s) some next = omega arith

pub wide_start : (n h s m : ℕ) → 1 ≤ h → h ≤ 32 → 1 ≤ n / 2 ^ (2 * h) → s < 2 ^ 32 → s * s ≤ n / 2 ^ (2 * h) → n / 2 ^ (2 * h) < (s + 1) * (s + 1) → m ≡ min ((s * 2 ^ h) % 2 ^ 128 + ((n / 2 ^ (2 * h) - s * s + 1) * 2 ^ (h - 1)) % 2 ^ 64 / s) (((s + 1) * 2 ^ h) % 2 ^ 128 - 1) → (n < (m + 1) * (m + 1)) × (m < 2 ^ 64)
wide_start n h s m some small leading narrow low high m_is =
    let positive : 0 < s = positive_root (n / 2 ^ (2 * h)) s leading high in
    let H : ℕ = 2 ^ (h - 1) in
    let r : ℕ = n / 2 ^ (2 * h) - s * s in
    let q : ℕ = (r + 1) * H / s in
    let back : suc (h - 1) ≡ h = omega arith in
    let twice : 2 ^ h ≡ 2 * H = ap (λ (k : ℕ). 2 ^ k) (sym back) ∙ pow-suc 2 (h - 1) ∙ mul_comm (2 ^ (h - 1)) 2 in
    let square : 2 ^ (2 * h) ≡ 2 * H * (2 * H) = ap (λ (k : ℕ). 2 ^ k) (two-mul h) ∙ pow-add 2 h h ∙ ap (λ (k : ℕ). k * k) twice in
    let whole_high : ((s + 1) * 2 ^ h) % 2 ^ 128 ≡ (s + 1) * 2 ^ h = shl_whole (s + 1) 33 h 128 (omega arith) (omega arith) in
    let whole_low : (s * 2 ^ h) % 2 ^ 128 ≡ s * 2 ^ h = shl_whole s 32 h 128 narrow (omega arith) in
    let whole_rest : ((r + 1) * H) % 2 ^ 64 ≡ (r + 1) * H = shl_whole (r + 1) 33 (h - 1) 64 (omega arith) (omega arith) in
    let m_plain : m ≡ min (s * 2 ^ h + q) ((s + 1) * 2 ^ h - 1) = m_is ∙ rw (whole_high, whole_low, whole_rest) refl in
    let covers : n < (n / 2 ^ (2 * h) + 1) * 2 ^ (2 * h) = omega (arith, shr_split n (2 * h), mod_below n (2 ^ (2 * h)) (pow_pos (2 * h))) in
    let parts : n / 2 ^ (2 * h) + 1 ≡ s * s + r + 1 = omega arith in
    let by_division : n < (s * (2 * H) + q + 1) * (s * (2 * H) + q + 1) = (let P : ℕ → Type 0 = λ k. n < (s * s + r + 1) * k in lower_part n s r q H positive (subst P square (rw parts at covers)) refl) in
    let by_next : n < ((s + 1) * 2 ^ h) * ((s + 1) * 2 ^ h) = start_above n h s high in
    let full : (s + 1) * 2 ^ h - 1 + 1 ≡ (s + 1) * 2 ^ h = omega (arith, mul-pos (zero-lt-suc s) (pow_pos h)) in
    let top : (s + 1) * 2 ^ h ≤ 2 ^ 32 * 2 ^ 32 = mul-le (s + 1) (2 ^ h) (2 ^ 32) (2 ^ 32) (omega arith) (pow_mono small) in
    (lesser_above n (s * 2 ^ h + q) ((s + 1) * 2 ^ h - 1) m (rw twice by_division) (rw full by_next) m_plain, omega arith)
