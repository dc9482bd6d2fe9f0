-- What stands at a key, and of which kind it is (TOML 1.1; the faults are this project's profile).
use Rattle.std.specs.Prelude.{ℕ, Bool, List, Result, Ok, Err, ok_or}
use Rattle.std.specs.Result.{result_map_both}
use Rattle.toml.specs.Data.{Data, Members, get_member, as_bool, as_str, as_table}
use Rattle.toml.specs.View.{table_view}
use Rattle.site_fields.specs.declared.fault.Field.{Field}
use Rattle.site_fields.specs.declared.fault.SiteFault.{SiteFault}
use Rattle.site_fields.specs.declared.fault.SiteFault.TheVariants.{Missing, Kind}
use Rattle.site_fields.specs.declared.kinds.Place.{Place as Held}

-- what reading gives: a value, or the first fault
abbrev pub Reading : Type 0 → Type 0
Reading A = Result A SiteFault

-- one reading, and behind it another of what it gave
infixl 10 ◌>>=◌
abbrev pub ◌>>=◌ : {A B : Type 0} → Result A SiteFault → (A → Result B SiteFault) → Result B SiteFault
(Ok x) >>= f = f x
(Err fault) >>= f = Err fault

-- a reading, its value seen by a function
abbrev pub reading_map : {A B : Type 0} → (A → B) → Result A SiteFault → Reading B
reading_map see read = result_map_both see (λ fault. fault) read

-- where fields are looked for: the members of a table, and its number among the entries of a repeated table, 0 outside those
pub record Place : Type 0 where
  pub members : Members
  pub entry : ℕ

-- the place that the code holds
abbrev pub place : Held → Place
place held = record { members = table_view held.table.now; entry = held.entry }

-- the field of this number there
abbrev pub field : ℕ → Place → Field
field number at = record { number = number; entry = at.entry }

-- what stands at a key, which must be there
unfoldable pub required : ℕ → List ℕ → Place → Reading Data
required number key at = ok_or (get_member key at.members) (Missing (field number at))

-- true or false
unfoldable pub boolean : ℕ → List ℕ → Place → Reading Bool
boolean number key at = do
  value ← required number key at
  ok_or (as_bool value) (Kind (field number at))

-- a text
unfoldable pub text : ℕ → List ℕ → Place → Reading (List ℕ)
text number key at = do
  value ← required number key at
  ok_or (as_str value) (Kind (field number at))

-- a table, whose fields are looked for in it
unfoldable pub table : ℕ → List ℕ → Place → Reading Place
table number key at = do
  value ← required number key at
  members ← ok_or (as_table value) (Kind (field number at))
  Ok (record { members = members; entry = at.entry })
