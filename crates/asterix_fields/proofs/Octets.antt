-- Numbers and their octets: each way back gives what was there.
use Rattle.std.proofs.Common.{◌≡◌, ℕ, zero, suc, ◌+◌, ◌*◌, ◌/◌, ◌%◌, ◌^◌, ◌<◌, List, [], ◌∷◌, length, refl, ap, ◌∙◌, arith}
use Rattle.std.proofs.Math.Nat.{div-add-mod, div-div-eq-div-mul, mul-add-div_right, mul-add-mod_self_right, pow-suc, mod-eq_of_lt}
use Rattle.std.proofs.lemmas.Nat.{div-mul-add, mul-add-lt}
use Rattle.asterix_fields.specs.Numbers.{big_endian, octets, AreOctets}

pub power_pos : (count : ℕ) → 0 < 256 ^ count
power_pos zero = omega arith
power_pos (suc count) = rw pow-suc (omega (arith, power_pos count))

pub length-octets : (count value : ℕ) → length (octets count value) ≡ count
length-octets zero value = refl
length-octets (suc count) value = ap suc (length-octets count value)

split_mod : (value p : ℕ) → (value / p % 256) * p + value % p ≡ value % (p * 256)
split_mod value p =
    let q : ℕ = value / p in
    let whole : p * q + value % p ≡ value = div-add-mod value p in
    let high : 256 * (q / 256) + q % 256 ≡ q = div-add-mod q 256 in
    let same : q / 256 ≡ value / (p * 256) = div-div-eq-div-mul value p 256 in
    let all : (p * 256) * (value / (p * 256)) + value % (p * 256) ≡ value = div-add-mod value (p * 256) in
    let spread : p * (256 * (q / 256) + q % 256) ≡ p * q = ap (λ z. p * z) high in
    let spread' : p * (q / 256) ≡ p * (value / (p * 256)) = ap (λ z. p * z) same in
    omega (arith, whole, all, spread, spread')

pub big_endian-octets : (count value : ℕ) → big_endian (octets count value) ≡ value % 256 ^ count
big_endian-octets zero value = omega arith
big_endian-octets (suc count) value =
    rw (length-octets count value, big_endian-octets count value, pow-suc) (split_mod value (256 ^ count))

pub read_again : (count value : ℕ) → value < 256 ^ count → big_endian (octets count value) ≡ value
read_again count value h = big_endian-octets count value ∙ mod-eq_of_lt h

pub big_endian_below : (bytes : List ℕ) → AreOctets bytes → big_endian bytes < 256 ^ length bytes
big_endian_below [] h = omega arith
big_endian_below (octet ∷ rest) h =
    rw pow-suc (mul-add-lt octet (256 ^ length rest) (big_endian rest) 256 h.0 (big_endian_below rest h.1))

above_regrouped : (above value p : ℕ) → above * (p * 256) + value ≡ (above * 256) * p + value
above_regrouped above value p = omega arith

above_digit : (above value p : ℕ) → 0 < p → ((above * 256) * p + value) / p % 256 ≡ value / p % 256
above_digit above value p h =
    ap (λ q. q % 256) (mul-add-div_right h (above * 256) value) ∙ mul-add-mod_self_right above 256 (value / p)

-- what stands above the octets that are written makes no difference
pub octets-add_above : (count above value : ℕ) → octets count (above * 256 ^ count + value) ≡ octets count value
octets-add_above zero above value = refl
octets-add_above (suc count) above value =
    let p : ℕ = 256 ^ count in
    let whole : above * 256 ^ suc count + value ≡ (above * 256) * p + value =
    ap (λ n. above * n + value) (pow-suc 256 count) ∙ above_regrouped above value p in
    let head : ((above * 256) * p + value) / p % 256 ≡ value / p % 256 = above_digit above value p (power_pos count) in
    let tail : octets count ((above * 256) * p + value) ≡ octets count value = octets-add_above count (above * 256) value in
    ap (octets (suc count)) whole ∙ (cc)

top_digit : (octet value p : ℕ) → octet < 256 → value < p → (octet * p + value) / p % 256 ≡ octet
top_digit octet value p small below =
    ap (λ q. q % 256) (div-mul-add octet p value below) ∙ mod-eq_of_lt small

pub write_again : (bytes : List ℕ) → AreOctets bytes → octets (length bytes) (big_endian bytes) ≡ bytes
write_again [] h = refl
write_again (octet ∷ rest) h =
    let value : ℕ = big_endian rest in
    let p : ℕ = 256 ^ length rest in
    let head : (octet * p + value) / p % 256 ≡ octet = top_digit octet value p h.0 (big_endian_below rest h.1) in
    let tail : octets (length rest) (octet * p + value) ≡ octets (length rest) value = octets-add_above (length rest) octet value in
    let again : octets (length rest) value ≡ rest = write_again rest h.1 in
    cc
