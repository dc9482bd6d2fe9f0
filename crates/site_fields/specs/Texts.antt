-- Texts of a site file (this project's profile).
use Rattle.std.specs.Prelude.{ℕ, pos, List, length, Option, Ok, ok_or}
use Rattle.toml.specs.Data.{Data, get_member, as_str}
use Rattle.site_fields.specs.declared.fault.Field.{Field}
use Rattle.site_fields.specs.declared.fault.SiteFault.TheVariants.{Kind}
use Rattle.site_types.specs.declared.limits.Limits.{Limits}
use Rattle.site_fields.specs.Kinds.{Reading, ◌>>=◌, Place, field}
use Rattle.site_fields.specs.Numbers.{if_there}
use Rattle.site_fields.specs.Ranges.{within}

-- a text of so many octets
unfoldable pub text_within : Field → Limits → Data → Reading (List ℕ)
text_within at octets value = do
  text ← ok_or (as_str value) (Kind at)
  so_long ← within at octets (pos (length text))
  Ok text

-- a text of so many octets, where there is one
unfoldable pub optional_text : ℕ → List ℕ → Limits → Place → Reading (Option (List ℕ))
optional_text number key octets at = if_there (text_within (field number at) octets) (get_member key at.members)
