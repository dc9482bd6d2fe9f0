-- What items say, in plain numerals (ASTERIX part 9): an example of each, by its octets.
use Rattle.std.specs.Prelude.{◌≡◌, true, false, pos, [], ◌∷◌, Some}
use Rattle.std.proofs.Common.{◌-ℤ◌}
use Rattle.cat062_read.specs.Contents.{acceleration, barometric, code, is_ended, is_simulated, is_tentative, number, position, signed, source, speed, time, wgs}

pub record AreContentsInNumbers : Type 0 where
  -- 010, 040, and 070 in 1/128 s
  pub source_25_10 : source (25 ∷ 10 ∷ []) ≡ Some (25, 10)
  pub number_258 : number (1 ∷ 2 ∷ []) ≡ Some 258
  pub ten_hours : time (70 ∷ 80 ∷ 0 ∷ []) ≡ Some 4608000
  -- 100: 5 km and -1 m, in 0.5 m
  pub placed : position (0 ∷ 39 ∷ 16 ∷ 255 ∷ 255 ∷ 254 ∷ []) ≡ Some (pos 10000, pos 0 -ℤ pos 2)
  -- 105, in 180/2^25 degrees
  pub on_the_globe : wgs (0 ∷ 1 ∷ 0 ∷ 2 ∷ 255 ∷ 255 ∷ 255 ∷ 253 ∷ []) ≡ Some (pos 65538, pos 0 -ℤ pos 3)
  -- 185: 250 m/s and -250 m/s, in 0.25 m/s
  pub moving : speed (3 ∷ 232 ∷ 252 ∷ 24 ∷ []) ≡ Some (pos 1000, pos 0 -ℤ pos 1000)
  -- 210, in 0.25 m/s^2
  pub turning : acceleration (127 ∷ 128 ∷ []) ≡ Some (pos 127, pos 0 -ℤ pos 128)
  -- 136: flight level 330, in 25 ft
  pub level_330 : signed (5 ∷ 40 ∷ []) ≡ Some (pos 1320)
  -- 135: bit 16 says that QNH correction is applied; 33,000 ft and -25 ft, in 25 ft
  pub without_qnh : barometric (5 ∷ 40 ∷ []) ≡ Some (false, pos 1320)
  pub with_qnh : barometric (255 ∷ 255 ∷ []) ≡ Some (true, pos 0 -ℤ pos 1)
  -- 060: the low 12 bits, octal 1234
  pub code_1234 : code (242 ∷ 156 ∷ []) ≡ Some 668
  -- 080: bit 2 of the first octet, bits 8 and 7 of the second
  pub tentative : is_tentative (2 ∷ []) ≡ true
  pub simulated : is_simulated (1 ∷ 128 ∷ []) ≡ true
  pub ended : is_ended (1 ∷ 64 ∷ []) ≡ true
