-- The site that a text is, or its first fault (this project's profile).
use Rattle.std.specs.Prelude.{ℕ, List, length, Err, ok_or, nat_lt, if◌then◌else◌}
use Rattle.std.specs.Str.{is_utf8}
use Rattle.toml.specs.Data.{Members}
use Rattle.toml.specs.Parse.{parse_document}
use Rattle.site_fields.specs.declared.fault.SiteFault.TheVariants.{Syntax, Long}
use Rattle.site_params.specs.declared.read.TheConstants.{SITE_ROOM}
use Rattle.site_types.specs.declared.site.Site.{Site}
use Rattle.site_fields.specs.Kinds.{Reading, ◌>>=◌}
use Rattle.site_params.specs.Fields.{site_of}

-- the document that a text is
unfoldable pub document : List ℕ → Reading Members
document text = if is_utf8 text then ok_or (parse_document text) Syntax else Err Syntax

-- the site that a text is, or its first fault; that it is too long comes first
unfoldable pub site_of_text : List ℕ → Reading Site
site_of_text text =
    if nat_lt SITE_ROOM (length text) then Err Long
    else (document text >>= λ members. site_of (record { members = members; entry = 0 }))
