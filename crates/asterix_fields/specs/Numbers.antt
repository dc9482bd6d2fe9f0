-- Numbers as octets, the highest first, and two's complement (ASTERIX, all data fields).
use Rattle.std.specs.Prelude.{ℕ, ℤ, pos, ◌+◌, ◌-◌, ◌*◌, ◌/◌, ◌%◌, ◌^◌, ◌<◌, ◌-ℤ◌, List, [], ◌∷◌, length, zero, suc, nat_lt, if◌then◌else◌}

-- the number that octets spell, the highest first
abbrev pub big_endian : List ℕ → ℕ
big_endian [] = 0
big_endian (octet ∷ rest) = octet * 256 ^ length rest + big_endian rest

-- so many octets of a number, the highest first
abbrev pub octets : ℕ → ℕ → List ℕ
octets zero value = []
octets (suc count) value = (value / 256 ^ count) % 256 ∷ octets count value

-- the signed number that a field of so many bits holds (two's complement)
abbrev pub twos_complement : ℕ → ℕ → ℤ
twos_complement bits value = if nat_lt value (2 ^ (bits - 1)) then pos value else pos value -ℤ pos (2 ^ bits)

-- each element is an octet
abbrev pub AreOctets : List ℕ → Type 0
AreOctets [] = Unit {0}
AreOctets (octet ∷ rest) = (octet < 256) × AreOctets rest
