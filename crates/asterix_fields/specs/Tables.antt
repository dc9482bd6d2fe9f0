-- Which tables a record can be read by (this project's profile: at most 35 items, as five FSPEC octets name).
use Rattle.std.specs.Prelude.{ℕ, ◌+◌, ◌<◌, Bool, true, false, ◌&&◌, IsTrue, List, length, take, drop, nat_le}
use Rattle.std.specs.List.{list_all}
use Rattle.asterix_fields.specs.declared.sizes.TheConstants.{MOST_ITEMS}
use Rattle.asterix_fields.specs.declared.tables.Form.{Form}
use Rattle.asterix_fields.specs.declared.tables.Form.TheVariants.{Spare, Fixed, Extended, Explicit, Repeat, Compound}

-- a fixed or extended form has at least one octet
abbrev pub has_length : Form → Bool
has_length (Fixed size) = nat_le 1 size
has_length (Extended size) = nat_le 1 size
has_length Spare = true
has_length Explicit = true
has_length (Repeat size) = true
has_length (Compound first count) = true

-- a compound's row is fixed, of at least one octet, or repeated
abbrev pub is_row : Form → Bool
is_row (Fixed size) = nat_le 1 size
is_row (Repeat size) = true
is_row Spare = false
is_row (Extended size) = false
is_row Explicit = false
is_row (Compound first count) = false

-- a compound's rows in the subfield table
abbrev pub rows_of : List Form → ℕ → ℕ → List Form
rows_of subs first count = take count (drop first subs)

-- rows such as a compound can have: at most 255, each one fixed or repeated
pub record AreRows (rows : List Form) : Type 0 where
  pub few : length rows < 256
  pub each : IsTrue (list_all is_row rows)

-- a compound's rows are all there, each one fixed or repeated
abbrev pub has_rows : List Form → Form → Bool
has_rows subs (Compound first count) = nat_le (first + count) (length subs) && list_all is_row (rows_of subs first count)
has_rows subs Spare = true
has_rows subs (Fixed size) = true
has_rows subs (Extended size) = true
has_rows subs Explicit = true
has_rows subs (Repeat size) = true

abbrev pub is_well_formed : List Form → List Form → Bool
is_well_formed uap subs = nat_le (length uap) MOST_ITEMS && list_all has_length uap && list_all has_length subs && list_all (has_rows subs) uap

-- A record can be read by these tables. (A test that computes, so that constant tables prove it by themselves.)
abbrev pub WellFormed : List Form → List Form → Type 0
WellFormed uap subs = IsTrue (is_well_formed uap subs)
