-- What is read of a record's items, by their texts (ASTERIX part 9, category 062; which items are used is this project's profile).
use Rattle.std.specs.Prelude.{ℕ, ℤ, ◌-◌, ◌+◌, ◌/◌, ◌%◌, ◌^◌, ◌==◌, Bool, List, [], ◌∷◌, length, slice_index, slice_index_or, Option, Some, None, if◌then◌else◌}
use Rattle.asterix_fields.specs.Numbers.{big_endian, twos_complement}
use Rattle.cat062_read.specs.declared.record.Raw062.{Raw062}

-- the number in two octets, three or four, from an offset on
abbrev pub two_at : List ℕ → ℕ → ℕ
two_at text at = big_endian (slice_index text at ∷ slice_index text (at + 1) ∷ [])

abbrev pub three_at : List ℕ → ℕ → ℕ
three_at text at = big_endian (slice_index text at ∷ slice_index text (at + 1) ∷ slice_index text (at + 2) ∷ [])

abbrev pub four_at : List ℕ → ℕ → ℕ
four_at text at = big_endian (slice_index text at ∷ slice_index text (at + 1) ∷ slice_index text (at + 2) ∷ slice_index text (at + 3) ∷ [])

-- 010: the system area code and the system identification code
abbrev pub source : List ℕ → Option (ℕ × ℕ)
source text = if length text == 2 then Some (slice_index text 0, slice_index text 1) else None

-- 040: the track number
abbrev pub number : List ℕ → Option ℕ
number text = if length text == 2 then Some (two_at text 0) else None

-- 070: the time of day, as written
abbrev pub time : List ℕ → Option ℕ
time text = if length text == 3 then Some (three_at text 0) else None

-- 100: X and Y
abbrev pub position : List ℕ → Option (ℤ × ℤ)
position text = if length text == 6 then Some (twos_complement 24 (three_at text 0), twos_complement 24 (three_at text 3)) else None

-- 105: latitude and longitude
abbrev pub wgs : List ℕ → Option (ℤ × ℤ)
wgs text = if length text == 8 then Some (twos_complement 32 (four_at text 0), twos_complement 32 (four_at text 4)) else None

-- 185: Vx and Vy
abbrev pub speed : List ℕ → Option (ℤ × ℤ)
speed text = if length text == 4 then Some (twos_complement 16 (two_at text 0), twos_complement 16 (two_at text 2)) else None

-- 210: Ax and Ay
abbrev pub acceleration : List ℕ → Option (ℤ × ℤ)
acceleration text = if length text == 2 then Some (twos_complement 8 (slice_index text 0), twos_complement 8 (slice_index text 1)) else None

-- 136 and 220: one signed number
abbrev pub signed : List ℕ → Option ℤ
signed text = if length text == 2 then Some (twos_complement 16 (two_at text 0)) else None

-- 135: bit 16 says that QNH correction is applied; the other 15 bits are signed
abbrev pub barometric : List ℕ → Option (Bool × ℤ)
barometric text = if length text == 2 then Some (two_at text 0 / 2 ^ 15 == 1, twos_complement 15 (two_at text 0 % 2 ^ 15)) else None

-- 060: the Mode 3/A code in the low 12 bits
abbrev pub code : List ℕ → Option ℕ
code text = if length text == 2 then Some (two_at text 0 % 2 ^ 12) else None

-- 080: bit 2 of the first octet; an absent octet says no
abbrev pub is_tentative : List ℕ → Bool
is_tentative text = slice_index text 0 / 2 % 2 == 1

-- 080: bit 8 of the first extension
abbrev pub is_simulated : List ℕ → Bool
is_simulated text = slice_index text 1 / 2 ^ 7 % 2 == 1

-- 080: bit 7 of the first extension
abbrev pub is_ended : List ℕ → Bool
is_ended text = slice_index text 1 / 2 ^ 6 % 2 == 1

-- the text of an item by its FRN; an absent item has the empty text
abbrev pub item : List (List ℕ) → ℕ → List ℕ
item texts frn = slice_index_or texts (frn - 1) []

-- the contents of a record, from the texts of its items
abbrev pub contents : List (List ℕ) → Raw062
contents texts = record {
  source = source (item texts 1);
  time = time (item texts 4);
  wgs = wgs (item texts 5);
  xy = position (item texts 6);
  speed = speed (item texts 7);
  accel = acceleration (item texts 8);
  code = code (item texts 9);
  number = number (item texts 12);
  tentative = is_tentative (item texts 13);
  simulated = is_simulated (item texts 13);
  ended = is_ended (item texts 13);
  flight_level = signed (item texts 17);
  baro = barometric (item texts 19);
  rate = signed (item texts 20);
}
