-- What presence octets name and what octets say as numbers, in plain numerals (ASTERIX part 1).
use Rattle.std.specs.Prelude.{◌≡◌, true, false, pos, [], ◌∷◌}
use Rattle.std.proofs.Common.{◌-ℤ◌}
use Rattle.asterix_fields.specs.Spelling.{is_named}
use Rattle.asterix_fields.specs.Numbers.{big_endian, octets, twos_complement}

-- bits 8 to 2 of the first octet are the numbers 1 to 7, those of the second 8 to 14, and bit 2 of the fifth is 35; bit 1 names none
pub record IsPresenceOfNumbers : Type 0 where
  pub first : is_named (128 ∷ []) 1 ≡ true
  pub seventh : is_named (2 ∷ []) 7 ≡ true
  pub eighth : is_named (1 ∷ 128 ∷ []) 8 ≡ true
  pub last : is_named (1 ∷ 1 ∷ 1 ∷ 1 ∷ 2 ∷ []) 35 ≡ true
  pub extension : is_named (1 ∷ 0 ∷ []) 7 ≡ false

-- the highest octet first, and the highest bit the sign
pub record IsOrderOfOctets : Type 0 where
  pub read : big_endian (1 ∷ 2 ∷ 3 ∷ []) ≡ 66051
  pub written : octets 3 66051 ≡ 1 ∷ 2 ∷ 3 ∷ []
  pub least : twos_complement 16 32768 ≡ pos 0 -ℤ pos 32768
  pub below_zero : twos_complement 24 16777215 ≡ pos 0 -ℤ pos 1
