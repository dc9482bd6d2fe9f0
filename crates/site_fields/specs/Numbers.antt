-- Numbers of a site file, in the units of a site (this project's profile).
use Rattle.std.specs.Prelude.{ℕ, ℤ, pos, ◌*ℤ◌, int_div, int_rem, unsigned_abs, List, Option, Some, None, Ok, Err, ok_or, if◌then◌else◌}
use Rattle.std.specs.Ordering.{int_eq}
use Rattle.toml.specs.Data.{Data, get_member, as_integer}
use Rattle.site_fields.specs.declared.fault.Field.{Field}
use Rattle.site_fields.specs.declared.fault.SiteFault.TheVariants.{Kind, Range}
use Rattle.site_types.specs.declared.limits.Limits.{Limits}
use Rattle.site_fields.specs.declared.ranges.TheConstants.{OCTET}
use Rattle.site_types.specs.declared.units.TheConstants.{TICKS_PER_SECOND, LENGTH_UNITS_PER_METRE, HEIGHT_UNITS_PER_25_FEET, FEET_PER_LEVEL}
use Rattle.site_fields.specs.Kinds.{Reading, ◌>>=◌, Place, field, required}
use Rattle.site_fields.specs.Ranges.{within}

-- an integer in range
unfoldable pub ranged : Field → Limits → Data → Reading ℤ
ranged at limits value = do
  number ← ok_or (as_integer value) (Kind at)
  within at limits number

-- feet in range, as steps of 25 ft; feet between two steps are out of range
unfoldable pub levels : Field → Limits → Data → Reading ℤ
levels at limits value = do
  feet ← ranged at limits value
  if int_eq (int_rem feet FEET_PER_LEVEL) (pos 0) then Ok (int_div feet FEET_PER_LEVEL) else Err (Range at feet)

-- an integer in range at a key
unfoldable pub integer : ℕ → List ℕ → Limits → Place → Reading ℤ
integer number key limits at = do
  value ← required number key at
  ranged (field number at) limits value

-- an octet
unfoldable pub octet : ℕ → List ℕ → Place → Reading ℕ
octet number key at = do
  code ← integer number key OCTET at
  Ok (unsigned_abs code)

-- seconds, in ticks
unfoldable pub seconds : ℕ → List ℕ → Limits → Place → Reading ℤ
seconds number key limits at = do
  count ← integer number key limits at
  Ok (count *ℤ TICKS_PER_SECOND)

-- metres, in length units
unfoldable pub metres : ℕ → List ℕ → Limits → Place → Reading ℤ
metres number key limits at = do
  count ← integer number key limits at
  Ok (count *ℤ LENGTH_UNITS_PER_METRE)

-- feet, in height units
unfoldable pub height : ℕ → List ℕ → Limits → Place → Reading ℤ
height number key limits at = do
  value ← required number key at
  steps ← levels (field number at) limits value
  Ok (steps *ℤ HEIGHT_UNITS_PER_25_FEET)

-- what is read at a key, where something stands there
abbrev pub if_there : {A : Type 0} → (Data → Reading A) → Option Data → Reading (Option A)
if_there read None = Ok None
if_there read (Some value) = read value >>= λ found. Ok (Some found)

-- an integer in range, where there is one
unfoldable pub optional_integer : ℕ → List ℕ → Limits → Place → Reading (Option ℤ)
optional_integer number key limits at = if_there (ranged (field number at) limits) (get_member key at.members)

-- feet in range as steps of 25 ft, where there are any
unfoldable pub optional_levels : ℕ → List ℕ → Limits → Place → Reading (Option ℤ)
optional_levels number key limits at = if_there (levels (field number at) limits) (get_member key at.members)
