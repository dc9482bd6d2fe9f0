-- Data blocks in plain numerals (ASTERIX part 1, the data block): the category in octet 1, the length in octets 2 and 3, at least 3.
use Rattle.std.specs.Prelude.{◌≡◌, [], ◌∷◌}
use Rattle.asterix_blocks.specs.declared.blocks.End.TheVariants.{Clean, Truncated, BadLength}
use Rattle.asterix_blocks.specs.Framing.{blocks, declared_length, end}

pub record AreBlocksInNumbers : Type 0 where
  pub length : declared_length (62 ∷ 1 ∷ 2 ∷ []) ≡ 258
  pub one : blocks (62 ∷ 0 ∷ 5 ∷ 8 ∷ 9 ∷ []) ≡ record { offset = 0; category = 62; body = 8 ∷ 9 ∷ [] } ∷ []
  pub second : blocks (62 ∷ 0 ∷ 3 ∷ 4 ∷ 0 ∷ 4 ∷ 7 ∷ []) ≡ record { offset = 0; category = 62; body = [] } ∷ record { offset = 3; category = 4; body = 7 ∷ [] } ∷ []
  pub clean : end (62 ∷ 0 ∷ 3 ∷ []) ≡ Clean
  pub too_short : end (62 ∷ 0 ∷ 2 ∷ []) ≡ BadLength 0
  pub cut_off : end (62 ∷ 0 ∷ 4 ∷ []) ≡ Truncated 0
