-- The heights of one cell more, and how many heights there are.
use Rattle.std.proofs.Common.{◌≡◌, ℕ, ◌+◌, List, [], ◌∷◌, ◌++◌, length, arith}
use Rattle.std.proofs.lemmas.List.FromFn.{length-map-range_with_len, map-range_with_len_more}
use Rattle.terrain_file.specs.Terrain.{height_of, heights_of}

pub heights_more : (bytes : List ℕ) (cell : ℕ) → heights_of bytes (cell + 1) ≡ heights_of bytes cell ++ height_of bytes cell ∷ []
heights_more bytes cell = map-range_with_len_more (height_of bytes) 0 cell cell (omega arith)

pub heights_count : (bytes : List ℕ) (count : ℕ) → length (heights_of bytes count) ≡ count
heights_count bytes count = length-map-range_with_len (height_of bytes) 0 count
