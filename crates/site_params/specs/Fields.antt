-- The fields of a site file in the order in which they are checked, each with its number, its key, its kind and its range (this
-- project's profile).
use Rattle.std.specs.Prelude.{codes as key, ℕ, pos, List, [], Option, Some, None, Ok, unwrap_or}
use Rattle.toml.specs.Data.{Data, get_member}
use Rattle.site_fields.specs.declared.fault.Field.{Field}
use Rattle.site_fields.specs.Kinds.{Reading, ◌>>=◌, Place, field}
use Rattle.site_fields.specs.Lists.{numbers_of}
use Rattle.site_fields.specs.Numbers.{octet, seconds, optional_integer, optional_levels}
use Rattle.site_fields.specs.Texts.{optional_text}
use Rattle.site_types.specs.declared.ranges.TheConstants.{DAY_SECONDS, CYCLE_SECONDS, QNH_FEET, CODES, FILE_NAME_LENGTH}
use Rattle.site_params.specs.declared.fields.TheConstants.{VERSION}
use Rattle.site_params.specs.declared.fields.General.{General}
use Rattle.site_types.specs.declared.site.Site.{Site}
use Rattle.site_params.specs.Confirms.{confirms_of}
use Rattle.site_params.specs.Sets.{sets_of}
use Rattle.site_params.specs.Regions.{regions_of}
use Rattle.site_params.specs.Volumes.{volumes_of}
use Rattle.site_params.specs.Funnels.{funnels_of}

-- the source, the times and the correction
unfoldable pub general_of : Place → Reading General
general_of at = do
  version ← optional_integer 1 (key "version") VERSION at
  sac ← octet 2 (key "sac") at
  sic ← octet 3 (key "sic") at
  start ← seconds 4 (key "start") DAY_SECONDS at
  period ← seconds 5 (key "period") CYCLE_SECONDS at
  timeout ← seconds 6 (key "timeout") CYCLE_SECONDS at
  qnh ← optional_levels 7 (key "qnh") QNH_FEET at
  Ok (record { sac = sac; sic = sic; start = start; period = period; timeout = timeout; qnh = unwrap_or qnh (pos 0) })

-- Mode 3/A codes, none where nothing stands there
abbrev pub codes_if_there : Field → Option Data → Reading (List ℕ)
codes_if_there at None = Ok []
codes_if_there at (Some value) = numbers_of CODES at value

unfoldable pub codes_of : Place → Reading (List ℕ)
codes_of at = codes_if_there (field 8 at) (get_member (key "codes") at.members)

-- the name of the terrain's file, where there is one
unfoldable pub terrain_of : Place → Reading (Option (List ℕ))
terrain_of at = optional_text 9 (key "terrain") FILE_NAME_LENGTH at

-- the whole document
unfoldable pub site_of : Place → Reading Site
site_of at = do
  general ← general_of at
  excluded ← codes_of at
  terrain ← terrain_of at
  confirm ← confirms_of at
  named ← sets_of at
  regions ← regions_of named.names at
  volumes ← volumes_of at
  funnels ← funnels_of at
  Ok (record {
    sac = general.sac;
    sic = general.sic;
    start = general.start;
    period = general.period;
    timeout = general.timeout;
    qnh = general.qnh;
    codes = excluded;
    terrain = terrain;
    confirm = confirm;
    sets = named.sets;
    regions = regions;
    volumes = volumes;
    funnels = funnels;
  })
