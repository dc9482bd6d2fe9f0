-- The entries of a repeated table, each by its name (this project's profile).
use Rattle.std.specs.Prelude.{ℕ, pos, List, [], ◌∷◌, ◌++◌, ◌≡◌, map, take, length, Option, Some, None, Ok, Err, ok_or, unwrap_or, option_and_then, position}
use Rattle.std.specs.List.{enumerate_from}
use Rattle.std.specs.Str.{bytes_eq}
use Rattle.toml.specs.Data.{Data, Members, get_member, as_str, as_table}
use Rattle.site_fields.specs.declared.fault.Field.{Field}
use Rattle.site_fields.specs.declared.fault.SiteFault.TheVariants.{Twice, NoSuchName}
use Rattle.site_types.specs.declared.limits.Limits.{Limits}
use Rattle.site_fields.specs.declared.ranges.TheConstants.{NAME_LENGTH}
use Rattle.site_fields.specs.Kinds.{Reading, ◌>>=◌, Place, field, required, text}
use Rattle.site_fields.specs.Ranges.{within}
use Rattle.site_fields.specs.Lists.{each, list_of}

-- the entries of a repeated table, so many
unfoldable pub so_many_tables : Field → Limits → Data → Reading (List Members)
so_many_tables at count value = do
  tables ← list_of as_table at value
  so_many ← within at count (pos (length tables))
  Ok tables

-- a repeated table: its entries
unfoldable pub tables : ℕ → List ℕ → Limits → Place → Reading (List Members)
tables number key count at = do
  value ← required number key at
  so_many_tables (field number at) count value

-- the same of a table that need not be there, and has no entries then
abbrev pub tables_if_there : Field → Limits → Option Data → Reading (List Members)
tables_if_there at count None = Ok []
tables_if_there at count (Some value) = so_many_tables at count value

unfoldable pub optional_tables : ℕ → List ℕ → Limits → Place → Reading (List Members)
optional_tables number key count at = tables_if_there (field number at) count (get_member key at.members)

-- a name, unless an entry before has it
abbrev pub unless_before : Field → List ℕ → Option ℕ → Reading (List ℕ)
unless_before at name None = Ok name
unless_before at name (Some first) = Err (Twice at first)

-- an entry's name, which is none of these names of the entries before it
unfoldable pub own_name : ℕ → List ℕ → List (List ℕ) → Place → Reading (List ℕ)
own_name number key names at = do
  name ← text number key at
  so_long ← within (field number at) NAME_LENGTH (pos (length name))
  unless_before (field number at) name (position (bytes_eq name) names)

-- the name that was read joins those before it
abbrev pub JoinsName : Reading (List ℕ) → List (List ℕ) → List (List ℕ) → Type 0
JoinsName read old new = (name : List ℕ) × (read ≡ Ok name) × (new ≡ old ++ name ∷ [])

-- the name of an entry
abbrev pub name_of : List ℕ → Members → List ℕ
name_of key members = unwrap_or (option_and_then as_str (get_member key members)) []

-- the number of the entry whose name stands there
unfoldable pub named_entry : ℕ → List ℕ → List (List ℕ) → Place → Reading ℕ
named_entry number key names at = do
  name ← text number key at
  ok_or (position (bytes_eq name) names) (NoSuchName (field number at))

-- an entry, numbered from 0: its name, and then what else is read of it
unfoldable pub entry : {A : Type 0} → (Place → Reading A) → ℕ → List ℕ → List Members → ℕ × Members → Reading A
entry read number key tables (index, members) = do
  name ← own_name number key (map (name_of key) (take index tables)) (record { members = members; entry = index })
  read (record { members = members; entry = index })

-- the entries of a repeated table, in file order
unfoldable pub entries : {A : Type 0} → (Place → Reading A) → ℕ → List ℕ → List Members → Reading (List A)
entries read number key tables = each (entry read number key tables) (enumerate_from 0 tables)
