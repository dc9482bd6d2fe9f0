-- The nets in lists of four, and which of them a set enables (this project's profile).
use Rattle.std.specs.Prelude.{ℕ, Bool, false, get_or}
use Rattle.site_types.specs.declared.net.Net.{Net}
use Rattle.site_types.specs.declared.net.Net.TheVariants.{Stca, Msaw, Apw, Apm}
use Rattle.site_types.specs.declared.net.TheConstants.{STCA, MSAW, APW, APM}
use Rattle.site_types.specs.declared.site.Set.{Set}

-- a net's place in lists of four
abbrev pub place : Net → ℕ
place Stca = STCA
place Msaw = MSAW
place Apw = APW
place Apm = APM

-- the set enables the net
abbrev pub enables : Net → Set → Bool
enables net set = get_or set.enabled (place net) false
