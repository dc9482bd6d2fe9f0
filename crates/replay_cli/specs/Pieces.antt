-- A text in pieces: words and numbers (this project's profile).
use Rattle.std.specs.Prelude.{ℕ, List, decimal}
use Rattle.std.specs.Fmt.{signed_decimal}
use Rattle.std.specs.List.{flat_map}
use Rattle.replay_cli.specs.declared.texts.pieces.Piece.{Piece}
use Rattle.replay_cli.specs.declared.texts.pieces.Piece.TheVariants.{Words, Number, Signed}

-- a number stands in decimal digits
abbrev pub piece_text : Piece → List ℕ
piece_text (Words words) = words.now
piece_text (Number number) = decimal number
piece_text (Signed number) = signed_decimal number

abbrev pub pieces_text : List Piece → List ℕ
pieces_text = flat_map piece_text
