-- Which of the last cycles hit a subject, as the bits of a number.
use Rattle.std.proofs.Common.{◌≡◌, ℕ, zero, suc, ◌+◌, ◌*◌, ◌/◌, ◌%◌, ◌^◌, ◌<◌, ◌≤◌, Bool, true, false, cond, not, ◌||◌, ◌==◌, List, [], ◌∷◌, map, take, count_by, count_ones, is_some, Option, refl, ap, ◌∙◌, arith}
use Rattle.std.specs.List.{list_any}
use Rattle.std.specs.Simd.Lanes.{mask_l}
use Rattle.std.proofs.lemmas.List.{take-map, take-take}
use Rattle.std.proofs.lemmas.Nat.{mod-mul-add, pow_pos}
use Rattle.std.proofs.lemmas.Bool.Decides.{nat_tests}
use Rattle.std.proofs.lemmas.Simd.{ones-mask_l}
use Rattle.std.proofs.Math.Nat.{div-add-mod, mod-one, pow-suc, zero-mod}

-- the bits of the last cycles, so many
abbrev pub bits_of : {X : Type 0} → ℕ → List (Option X) → ℕ
bits_of n marks = mask_l (map is_some (take n marks))

double_mod : (b m p : ℕ) → b < 2 → 0 < p → (b + 2 * m) % (p * 2) ≡ b + 2 * (m % p)
double_mod b m p small some =
    let q = m / p in
    let r = m % p in
    let parts : p * q + r ≡ m = div-add-mod m p in
    let below : r < p = omega arith in
    let whole : b + 2 * m ≡ q * (p * 2) + (b + 2 * r) = omega arith in
    let fits : b + 2 * r < p * 2 = omega arith in
    rw whole (mod-mul-add q (p * 2) (b + 2 * r) fits)

low : (b : Bool) → cond b 1 0 < 2
low true = omega arith
low false = omega arith

-- the low bits are those of the first marks
pub mask_take : (k : ℕ) (bs : List Bool) → mask_l bs % 2 ^ k ≡ mask_l (take k bs)
mask_take zero bs = mod-one (mask_l bs)
mask_take (suc k) [] = zero-mod (2 ^ suc k)
mask_take (suc k) (b ∷ bs) =
    ap (λ p. (cond b 1 0 + 2 * mask_l bs) % p) (pow-suc 2 k)
    ∙ double_mod (cond b 1 0) (mask_l bs) (2 ^ k) (low b) (pow_pos k)
    ∙ ap (λ m. cond b 1 0 + 2 * m) (mask_take k bs)

-- fewer of the last cycles
pub bits_within : {X : Type 0} (n w : ℕ) (marks : List (Option X)) → n ≤ w → bits_of w marks % 2 ^ n ≡ bits_of n marks
bits_within n w marks within =
    mask_take n (map is_some (take w marks))
    ∙ ap mask_l (take-map is_some n (take w marks) ∙ ap (map is_some) (take-take n w marks within))

one_more : {X : Type 0} (w : ℕ) (o : Option X) (marks : List (Option X)) → take w (is_some o ∷ map is_some (take w marks)) ≡ map is_some (take w (o ∷ marks))
one_more zero o marks = refl
one_more (suc w) o marks = ap (λ bs. is_some o ∷ bs) (take-map is_some w (take (suc w) marks) ∙ ap (map is_some) (take-take w (suc w) marks (omega arith)))

-- a cycle later each bit stands one place higher
pub bits_step : {X : Type 0} (w : ℕ) (o : Option X) (marks : List (Option X)) → (bits_of w marks * 2 + cond (is_some o) 1 0) % 2 ^ w ≡ bits_of w (o ∷ marks)
bits_step w o marks =
    let turned : bits_of w marks * 2 + cond (is_some o) 1 0 ≡ mask_l (is_some o ∷ map is_some (take w marks)) = omega arith in
    ap (λ m. m % 2 ^ w) turned
    ∙ mask_take w (is_some o ∷ map is_some (take w marks))
    ∙ ap mask_l (one_more w o marks)

pub count_bits : {X : Type 0} (n : ℕ) (marks : List (Option X)) → count_ones (bits_of n marks) ≡ count_by is_some (take n marks)
count_bits n marks = ones-mask_l is_some (take n marks)

some_at : (b any : Bool) (m : ℕ) → (m == 0) ≡ not any → (cond b 1 0 + 2 * m == 0) ≡ not (b || any)
some_at true any m rest = grind (arith, nat_tests)
some_at false true m rest = grind (arith, nat_tests)
some_at false false m rest = grind (arith, nat_tests)

-- no bit is set exactly where no mark is
pub some_bits : {X : Type 0} (marks : List (Option X)) → (mask_l (map is_some marks) == 0) ≡ not (list_any is_some marks)
some_bits [] = refl
some_bits (o ∷ marks) = some_at (is_some o) (list_any is_some marks) (mask_l (map is_some marks)) (some_bits marks)
