-- Presence octets as one number: a bit tells what the octets name.
use Rattle.std.proofs.Common.{◌≡◌, ℕ, suc, ◌+◌, ◌-◌, ◌*◌, ◌/◌, ◌%◌, ◌^◌, ◌<◌, ◌≤◌, inl, inr, true, false, eqb, List, length, get_or, None, Some, ap, sym, ◌∙◌, subst, arith}
use Rattle.std.proofs.lemmas.Bool.{cases_lt}
use Rattle.std.proofs.lemmas.Nat.{shr-shr, field_of, mod-pow-add, div-mul-add, mod_below, pow_pos}
use Rattle.std.proofs.Math.Nat.{zero-div, pow-le-pow_right, pow-suc, div-eq_of_lt}
use Rattle.asterix_fields.specs.Spelling.{is_named}
use Rattle.asterix_fields.specs.Bits.{has_bit, Tells, TellsBehind}
use Rattle.asterix_fields.specs.Faults.{first_named}
use Rattle.asterix_fields.proofs.PresenceLaws.{first_named_again, first_named_found, named_past}

-- ---- bits of a number

odd_or_even : (q x y : ℕ) → y ≡ q * 2 + x % 2 → y % 2 ≡ x % 2
odd_or_even q x y e = omega arith

mod_even : (x m : ℕ) → x % 2 ^ (m + 1) % 2 ≡ x % 2
mod_even x m = odd_or_even (x / 2 ^ 1 % 2 ^ m) x (x % 2 ^ (m + 1)) (mod-pow-add x m 1)

-- a bit below the place at which a number is cut off
pub low_bit : (n k j : ℕ) → j < k → n % 2 ^ k / 2 ^ j % 2 ≡ n / 2 ^ j % 2
low_bit n k j h =
    let whole : k ≡ (k - j - 1 + 1) + j = omega arith in
    ap (λ (i : ℕ). n % 2 ^ i / 2 ^ j % 2) whole
    ∙ ap (λ (q : ℕ). q % 2) (field_of n (k - j - 1 + 1) j)
    ∙ mod_even (n / 2 ^ j) (k - j - 1)

two_more : (b : ℕ) → 2 ^ suc b ≡ 2 * 2 ^ b
two_more b = let e = pow-suc 2 b in omega (arith, e)

-- no bit stands above the highest
pub no_bit_above : (n k j : ℕ) → n < 2 ^ k → k ≤ j → n / 2 ^ j ≡ 0
no_bit_above n k j below h =
    let more : 2 ^ k ≤ 2 ^ j = pow-le-pow_right {n = 2} (omega arith) {i = k} {j = j} h in
    let size : n < 2 ^ j = omega arith in
    div-eq_of_lt size

pub highest_bit : (n b : ℕ) → 2 ^ b ≤ n → n < 2 * 2 ^ b → n / 2 ^ b ≡ 1
highest_bit n b low high =
    let rest : n - 2 ^ b < 2 ^ b = omega arith in
    ap (λ (m : ℕ). m / 2 ^ b) (let e : n ≡ 1 * 2 ^ b + (n - 2 ^ b) = omega arith in e) ∙ div-mul-add 1 (2 ^ b) (n - 2 ^ b) rest

pub highest_below : (n b k : ℕ) → 2 ^ b ≤ n → n < 2 ^ k → b < k
highest_below n b k low below =
    elim (cases_lt b k) [
      | inl less ↦ less
      | inr more ↦ let power : 2 ^ k ≤ 2 ^ b = pow-le-pow_right {n = 2} (omega arith) {i = k} {j = b} (omega arith) in absurd (omega arith)
    ]

-- ---- presence octets

-- seven bits of the number are bits 8 to 2 of one octet
named_of_field : (octets : List ℕ) (bits index number field : ℕ) → 1 ≤ number → number ≤ 35 → (number - 1) / 7 ≡ index
    → bits / 2 ^ (7 * (4 - index)) % 128 ≡ field → field ≡ get_or octets index 0 / 2 → has_bit bits number ≡ is_named octets number
named_of_field octets bits index number field low high place here value =
    let r : ℕ = (number - 1) % 7 in
    let octet : ℕ = get_or octets index 0 in
    let x : ℕ = bits / 2 ^ (7 * (4 - index)) in
    let sum : 35 - number ≡ 7 * (4 - index) + (6 - r) = omega arith in
    let down : bits / 2 ^ (35 - number) ≡ x / 2 ^ (6 - r) = ap (λ (k : ℕ). bits / 2 ^ k) sum ∙ sym (shr-shr bits (7 * (4 - index)) (6 - r)) in
    let cut : x % 2 ^ 7 / 2 ^ (6 - r) % 2 ≡ x / 2 ^ (6 - r) % 2 = low_bit x 7 (6 - r) (omega arith) in
    let seven : x % 2 ^ 7 ≡ octet / 2 ^ 1 = here ∙ value in
    let one : 1 + (6 - r) ≡ 7 - r = omega arith in
    let up : octet / 2 ^ 1 / 2 ^ (6 - r) ≡ octet / 2 ^ (7 - r) = shr-shr octet 1 (6 - r) ∙ ap (λ (k : ℕ). octet / 2 ^ k) one in
    let same : bits / 2 ^ (35 - number) % 2 ≡ octet / 2 ^ (7 - r) % 2 =
    ap (λ (q : ℕ). q % 2) down ∙ sym cut ∙ ap (λ (q : ℕ). q / 2 ^ (6 - r) % 2) seven ∙ ap (λ (q : ℕ). q % 2) up in
    ap (λ (q : ℕ). eqb q 1) same ∙ ap (λ (i : ℕ). eqb (get_or octets i 0 / 2 ^ (7 - r) % 2) 1) (sym place)

first_field : (a b c d e : ℕ) → b < 128 → c < 128 → d < 128 → e < 128 → a < 128 → ((((a * 128 + b) * 128 + c) * 128 + d) * 128 + e) / 268435456 % 128 ≡ a
first_field a b c d e hb hc hd he ha = omega arith

second_field : (a b c d e : ℕ) → b < 128 → c < 128 → d < 128 → e < 128 → ((((a * 128 + b) * 128 + c) * 128 + d) * 128 + e) / 2097152 % 128 ≡ b
second_field a b c d e hb hc hd he = omega arith

third_field : (a b c d e : ℕ) → c < 128 → d < 128 → e < 128 → ((((a * 128 + b) * 128 + c) * 128 + d) * 128 + e) / 16384 % 128 ≡ c
third_field a b c d e hc hd he = omega arith

fourth_field : (a b c d e : ℕ) → d < 128 → e < 128 → ((((a * 128 + b) * 128 + c) * 128 + d) * 128 + e) / 128 % 128 ≡ d
fourth_field a b c d e hd he = omega arith

fifth_field : (a b c d e : ℕ) → e < 128 → ((((a * 128 + b) * 128 + c) * 128 + d) * 128 + e) / 1 % 128 ≡ e
fifth_field a b c d e he = omega arith

pub bits_tell : (octets : List ℕ) (a b c d e : ℕ) → length octets ≤ 5 → a < 128 → b < 128 → c < 128 → d < 128 → e < 128
    → a ≡ get_or octets 0 0 / 2 → b ≡ get_or octets 1 0 / 2 → c ≡ get_or octets 2 0 / 2 → d ≡ get_or octets 3 0 / 2 → e ≡ get_or octets 4 0 / 2
    → Tells ((((a * 128 + b) * 128 + c) * 128 + d) * 128 + e) octets
bits_tell octets a b c d e few ha hb hc hd he va vb vc vd ve =
    let bits : ℕ = (((a * 128 + b) * 128 + c) * 128 + d) * 128 + e in
    record {
      few = few;
      below = omega arith;
      each = λ number low high.
          elim (cases_lt number 8) [
            | inl w ↦ named_of_field octets bits 0 number a low high (omega arith) (first_field a b c d e hb hc hd he ha) va
            | inr w ↦ elim (cases_lt number 15) [
              | inl v ↦ named_of_field octets bits 1 number b low high (omega arith) (second_field a b c d e hb hc hd he) vb
              | inr v ↦ elim (cases_lt number 22) [
                | inl u ↦ named_of_field octets bits 2 number c low high (omega arith) (third_field a b c d e hc hd he) vc
                | inr u ↦ elim (cases_lt number 29) [
                  | inl t ↦ named_of_field octets bits 3 number d low high (omega arith) (fourth_field a b c d e hd he) vd
                  | inr t ↦ named_of_field octets bits 4 number e low high (omega arith) (fifth_field a b c d e he) ve
                ]
              ]
            ]
          ];
    }

-- ---- the first number past a table

pub not_named : (bits : ℕ) (octets : List ℕ) (number : ℕ) → Tells bits octets → 1 ≤ number → number ≤ 35 → bits / 2 ^ (35 - number) % 2 ≡ 0 → is_named octets number ≡ false
not_named bits octets number tells low high clear = sym (tells.each number low high) ∙ ap (λ (q : ℕ). eqb q 1) clear

pub named : (bits : ℕ) (octets : List ℕ) (number : ℕ) → Tells bits octets → 1 ≤ number → number ≤ 35 → bits / 2 ^ (35 - number) % 2 ≡ 1 → is_named octets number ≡ true
named bits octets number tells low high set = sym (tells.each number low high) ∙ ap (λ (q : ℕ). eqb q 1) set

pub none_past : (bits rows past : ℕ) (octets : List ℕ) → rows ≤ 35 → past ≡ bits % 2 ^ (35 - rows) → past ≡ 0 → Tells bits octets → first_named octets (35 - rows) (rows + 1) ≡ None
none_past bits rows past octets few value zero_is tells =
    first_named_again octets (35 - rows) (rows + 1) (λ number low high.
    let clear : bits / 2 ^ (35 - number) % 2 ≡ 0 =
    sym (low_bit bits (35 - rows) (35 - number) (omega arith))
    ∙ ap (λ (q : ℕ). q / 2 ^ (35 - number) % 2) (sym value ∙ zero_is)
    ∙ ap (λ (q : ℕ). q % 2) (zero-div (2 ^ (35 - number))) in
    not_named bits octets number tells (omega arith) (omega arith) clear)

pub highest_past : (bits rows past b : ℕ) → past ≡ bits % 2 ^ (35 - rows) → 2 ^ b ≤ past → b < 35 - rows
highest_past bits rows past b value low =
    let below : bits % 2 ^ (35 - rows) < 2 ^ (35 - rows) = mod_below bits (2 ^ (35 - rows)) (pow_pos (35 - rows)) in
    highest_below past b (35 - rows) low (omega arith)

pub some_past : (bits rows past b : ℕ) (octets : List ℕ) → rows ≤ 35 → past ≡ bits % 2 ^ (35 - rows) → 2 ^ b ≤ past → past < 2 * 2 ^ b → Tells bits octets
    → first_named octets (35 - rows) (rows + 1) ≡ Some (35 - b)
some_past bits rows past b octets few value low high tells =
    let less : b < 35 - rows = highest_past bits rows past b value low in
    let bit : (j : ℕ) → j < 35 - rows → bits / 2 ^ j % 2 ≡ past / 2 ^ j % 2 = λ j h.
    sym (low_bit bits (35 - rows) j h) ∙ ap (λ (q : ℕ). q / 2 ^ j % 2) (sym value) in
    let back : 35 - (35 - b) ≡ b = omega arith in
    let set : bits / 2 ^ (35 - (35 - b)) % 2 ≡ 1 =
    ap (λ (j : ℕ). bits / 2 ^ j % 2) back ∙ bit b less ∙ ap (λ (q : ℕ). q % 2) (highest_bit past b low high) in
    first_named_found octets (35 - rows) (rows + 1) (35 - b) (omega arith) (omega arith)
    (named bits octets (35 - b) tells (omega arith) (omega arith) set)
    (λ number from to.
    let size : past < 2 ^ suc b = subst (λ (m : ℕ). past < m) (sym (two_more b)) high in
    let clear : bits / 2 ^ (35 - number) % 2 ≡ 0 =
    bit (35 - number) (omega arith) ∙ ap (λ (q : ℕ). q % 2) (no_bit_above past (suc b) (35 - number) size (omega arith)) in
    not_named bits octets number tells (omega arith) (omega arith) clear)

-- ---- the numbers of one octet past an item's rows

pub none_spare : (bytes : List ℕ) (index from seven : ℕ) → 7 * index + 1 ≤ from → seven ≡ get_or bytes index 0 / 2 → seven % 2 ^ (7 * index + 8 - from) ≡ 0
    → first_named bytes (7 * index + 8 - from) from ≡ None
none_spare bytes index from seven low value clear =
    first_named_again bytes (7 * index + 8 - from) from (λ number after before.
    let r : ℕ = (number - 1) % 7 in
    let place : (number - 1) / 7 ≡ index = omega arith in
    let octet : ℕ = get_or bytes index 0 in
    let one : 1 + (6 - r) ≡ 7 - r = omega arith in
    let up : octet / 2 ^ (7 - r) ≡ seven / 2 ^ (6 - r) =
    ap (λ (k : ℕ). octet / 2 ^ k) (sym one) ∙ sym (shr-shr octet 1 (6 - r)) ∙ ap (λ (q : ℕ). q / 2 ^ (6 - r)) (sym value) in
    let none : octet / 2 ^ (7 - r) % 2 ≡ 0 =
    ap (λ (q : ℕ). q % 2) up ∙ sym (low_bit seven (7 * index + 8 - from) (6 - r) (omega arith))
    ∙ ap (λ (q : ℕ). q / 2 ^ (6 - r) % 2) clear ∙ ap (λ (q : ℕ). q % 2) (zero-div (2 ^ (6 - r))) in
    ap (λ (i : ℕ). eqb (get_or bytes i 0 / 2 ^ (7 - r) % 2) 1) place ∙ ap (λ (q : ℕ). eqb q 1) none)

-- ---- number by number

double_div : (m j : ℕ) → m * 2 / 2 ^ (j + 1) ≡ m / 2 ^ j
double_div m j = ap (λ (i : ℕ). m * 2 / 2 ^ i) (let e : j + 1 ≡ 1 + j = omega arith in e) ∙ sym (shr-shr (m * 2) 1 j) ∙ ap (λ (q : ℕ). q / 2 ^ j) (let e : m * 2 / 2 ^ 1 ≡ m = omega arith in e)

pub behind_none : (bits : ℕ) (octets : List ℕ) → Tells bits octets → TellsBehind 0 bits octets
behind_none bits octets tells = record {
  few = tells.few;
  below = tells.below;
  each = λ k low high. tells.each k low high ∙ ap (is_named octets) (let e : k ≡ 0 + k = omega arith in e);
}

pub behind_one : (from bits : ℕ) (octets : List ℕ) → TellsBehind from bits octets → TellsBehind (from + 1) (bits % 2 ^ 34 * 2) octets
behind_one from bits octets tells = record {
  few = tells.few;
  below = let rest : bits % 2 ^ 34 < 2 ^ 34 = mod_below bits (2 ^ 34) (pow_pos 34) in omega arith;
  each = λ k low high. elim (cases_lt k 35) [
    | inl within ↦
        let place : 35 - k ≡ (34 - k) + 1 = omega arith in
        let next : from + 1 + k ≡ from + (k + 1) = omega arith in
        let same : 35 - (k + 1) ≡ 34 - k = omega arith in
        let bit : bits % 2 ^ 34 * 2 / 2 ^ (35 - k) % 2 ≡ bits / 2 ^ (35 - (k + 1)) % 2 =
        ap (λ (j : ℕ). bits % 2 ^ 34 * 2 / 2 ^ j % 2) place
        ∙ ap (λ (q : ℕ). q % 2) (double_div (bits % 2 ^ 34) (34 - k))
        ∙ low_bit bits 34 (34 - k) (omega arith)
        ∙ ap (λ (j : ℕ). bits / 2 ^ j % 2) (sym same) in
        ap (λ (q : ℕ). eqb q 1) bit ∙ tells.each (k + 1) (omega arith) (omega arith) ∙ ap (is_named octets) (sym next)
    | inr last ↦
        let place : 35 - k ≡ 0 = omega arith in
        let even : bits % 2 ^ 34 * 2 / 2 ^ (35 - k) % 2 ≡ 0 = ap (λ (j : ℕ). bits % 2 ^ 34 * 2 / 2 ^ j % 2) place ∙ (let e : bits % 2 ^ 34 * 2 / 2 ^ 0 % 2 ≡ 0 = omega arith in e) in
        let few = tells.few in
        ap (λ (q : ℕ). eqb q 1) even ∙ sym (named_past octets (from + 1 + k) (omega arith))
  ];
}
