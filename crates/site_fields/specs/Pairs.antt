-- Lists of pairs: the points of polygons, and the times of volumes (this project's profile).
use Rattle.std.specs.Prelude.{ℕ, ℤ, pos, ◌*ℤ◌, List, [], ◌∷◌, length, Option, None, Ok, option_map, option_and_then}
use Rattle.toml.specs.Data.{Data, get_member, as_integer}
use Rattle.site_fields.specs.declared.fault.Field.{Field}
use Rattle.site_types.specs.declared.limits.PairLimits.{PairLimits}
use Rattle.site_fields.specs.Kinds.{Reading, ◌>>=◌, Place, field, required}
use Rattle.site_fields.specs.Ranges.{within}
use Rattle.site_fields.specs.Numbers.{if_there}
use Rattle.site_fields.specs.Lists.{each, as_parts, list_of}

-- two integers
abbrev pub two : List Data → Option (ℤ × ℤ)
two (first ∷ second ∷ []) = option_and_then (λ x. option_map (λ y. (x, y)) (as_integer second)) (as_integer first)
two others = None

-- a list of two integers
abbrev pub as_pair : Data → Option (ℤ × ℤ)
as_pair value = option_and_then two (as_parts value)

-- a number in range, in a site's units
unfoldable pub in_units : PairLimits → Field → ℤ → Reading ℤ
in_units limits at number = do
  found ← within at limits.number number
  Ok (found *ℤ pos limits.units)

-- both numbers in range, in a site's units
unfoldable pub pair : PairLimits → Field → ℤ × ℤ → Reading (ℤ × ℤ)
pair limits at numbers = do
  first ← in_units limits at numbers.0
  second ← in_units limits at numbers.1
  Ok (first, second)

-- a list of pairs, so many
unfoldable pub pairs_of : PairLimits → Field → Data → Reading (List (ℤ × ℤ))
pairs_of limits at value = do
  pairs ← list_of as_pair at value
  count ← within at limits.count (pos (length pairs))
  each (pair limits at) pairs

-- a list of pairs at a key
unfoldable pub pairs : ℕ → List ℕ → PairLimits → Place → Reading (List (ℤ × ℤ))
pairs number key limits at = do
  value ← required number key at
  pairs_of limits (field number at) value

-- a list of pairs, where there is one
unfoldable pub optional_pairs : ℕ → List ℕ → PairLimits → Place → Reading (Option (List (ℤ × ℤ)))
optional_pairs number key limits at = if_there (pairs_of limits (field number at)) (get_member key at.members)
