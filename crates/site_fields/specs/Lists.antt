-- Lists of a site file (this project's profile).
use Rattle.std.specs.Prelude.{ℕ, ℤ, pos, unsigned_abs, String, List, [], ◌∷◌, map, length, Option, Ok, ok_or, option_map}
use Rattle.std.specs.Borrow.{Bor}
use Rattle.std.specs.BTreeMap.{BTreeMap}
use Rattle.std.specs.declared.alloc.Global.{Global}
use Rattle.toml.specs.View.{table_view}
use Rattle.toml.specs.declared.value.Value.{Value}
use Rattle.toml.specs.Data.{Data, Items, Members, no_items, item, as_integer, as_array}
use Rattle.site_fields.specs.declared.fault.Field.{Field}
use Rattle.site_fields.specs.declared.fault.SiteFault.TheVariants.{Kind}
use Rattle.site_types.specs.declared.limits.ListLimits.{ListLimits}
use Rattle.site_fields.specs.Kinds.{Reading, ◌>>=◌}
use Rattle.site_fields.specs.Ranges.{within}

-- what is read of each element, up to the first fault
unfoldable pub each : {A B : Type 0} → (A → Reading B) → List A → Reading (List B)
each read [] = Ok []
each read (first ∷ others) = do
  one ← read first
  more ← each read others
  Ok (one ∷ more)

-- the items of an array
abbrev pub items_of : Items → List Data
items_of no_items = []
items_of (item first others) = first ∷ items_of others

-- the parts of a list
abbrev pub as_parts : Data → Option (List Data)
as_parts value = option_map items_of (as_array value)

abbrev pub parts : Field → Data → Reading (List Data)
parts at value = ok_or (as_parts value) (Kind at)

-- the tables that the code holds, as their members
abbrev pub table_views : List (Bor (BTreeMap (String Global) Value)) → List Members
table_views tables = map (λ t. table_view t.now) tables

-- a part of one kind
abbrev pub of_kind : {A : Type 0} → (Data → Option A) → Field → Data → Reading A
of_kind kind at part = ok_or (kind part) (Kind at)

-- a list whose parts are all of one kind
unfoldable pub list_of : {A : Type 0} → (Data → Option A) → Field → Data → Reading (List A)
list_of kind at value = do
  parts ← parts at value
  each (of_kind kind at) parts

-- a number in range
unfoldable pub number_in : ListLimits → Field → ℤ → Reading ℕ
number_in limits at number = do
  found ← within at (record { low = pos 0; high = pos limits.highest }) number
  Ok (unsigned_abs found)

-- a list of numbers in range, so many
unfoldable pub numbers_of : ListLimits → Field → Data → Reading (List ℕ)
numbers_of limits at value = do
  numbers ← list_of as_integer at value
  count ← within at limits.count (pos (length numbers))
  each (number_in limits at) numbers
