use Rattle.std.proofs.Common.{◌≡◌, List, [], ◌∷◌, refl, ap}
use Rattle.toml.specs.Data.{Data}
use Rattle.toml.specs.View as seen
use Rattle.site_fields.specs.Lists.{items_of}
use Rattle.site_fields.proofs.lists.as_parts.Goals as goal

items_of-seen : (values : List Data) → items_of (seen.items_of values) ≡ values
items_of-seen [] = refl
items_of-seen (value ∷ others) = ap (λ rest. value ∷ rest) (items_of-seen others)

pub returns-in-Some : goal.returns-in-Some
returns-in-Some c = rw (← c.in-Some.ensures, items_of-seen, c.as_slice.ensures.value)
