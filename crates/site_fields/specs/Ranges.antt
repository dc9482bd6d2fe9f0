-- A number in a field's range (this project's profile).
use Rattle.std.specs.Prelude.{ℤ, int_le, ◌&&◌, if◌then◌else◌, Ok, Err}
use Rattle.site_types.specs.declared.limits.Limits.{Limits}
use Rattle.site_fields.specs.declared.fault.Field.{Field}
use Rattle.site_fields.specs.declared.fault.SiteFault.TheVariants.{Range}
use Rattle.site_fields.specs.Kinds.{Reading}

-- the number, if it is in range
abbrev pub within : Field → Limits → ℤ → Reading ℤ
within at limits number = if int_le limits.low number && int_le number limits.high then Ok number else Err (Range at number)
