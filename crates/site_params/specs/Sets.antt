-- The parameter sets of a site file (this project's profile).
use Rattle.std.specs.Prelude.{codes as key, ℤ, Bool, List, [], ◌∷◌, map, Ok}
use Rattle.site_fields.specs.Kinds.{Reading, ◌>>=◌, Place, boolean}
use Rattle.site_fields.specs.Numbers.{seconds, metres, height}
use Rattle.site_fields.specs.Entries.{tables, name_of, entries}
use Rattle.site_types.specs.declared.ranges.TheConstants.{SET_COUNT, LOOK_SECONDS, SEPARATION_METRES, SEPARATION_FEET, SPLIT_FEET}
use Rattle.site_params.specs.declared.sets.NamedSets.{NamedSets}
use Rattle.site_types.specs.declared.site.Set.{Set}

-- which nets a set enables
unfoldable pub switches_of : Place → Reading (List Bool)
switches_of at = do
  stca ← boolean 17 (key "stca") at
  msaw ← boolean 18 (key "msaw") at
  apw ← boolean 19 (key "apw") at
  apm ← boolean 20 (key "apm") at
  Ok (stca ∷ msaw ∷ apw ∷ apm ∷ [])

-- how far each net looks ahead
unfoldable pub looks_of : Place → Reading (List ℤ)
looks_of at = do
  stca ← seconds 21 (key "look_stca") LOOK_SECONDS at
  msaw ← seconds 22 (key "look_msaw") LOOK_SECONDS at
  apw ← seconds 23 (key "look_apw") LOOK_SECONDS at
  apm ← seconds 24 (key "look_apm") LOOK_SECONDS at
  Ok (stca ∷ msaw ∷ apw ∷ apm ∷ [])

-- a parameter set, besides its name
unfoldable pub set_of : Place → Reading Set
set_of at = do
  enabled ← switches_of at
  look ← looks_of at
  h ← metres 25 (key "h") SEPARATION_METRES at
  v_low ← height 26 (key "v_low") SEPARATION_FEET at
  v_high ← height 27 (key "v_high") SEPARATION_FEET at
  split ← height 28 (key "split") SPLIT_FEET at
  now_h ← metres 29 (key "now_h") SEPARATION_METRES at
  now_v_low ← height 30 (key "now_v_low") SEPARATION_FEET at
  now_v_high ← height 31 (key "now_v_high") SEPARATION_FEET at
  urgent ← seconds 32 (key "urgent") LOOK_SECONDS at
  Ok (record {
    enabled = enabled;
    look = look;
    h = h;
    v_low = v_low;
    v_high = v_high;
    split = split;
    now_h = now_h;
    now_v_low = now_v_low;
    now_v_high = now_v_high;
    urgent = urgent;
  })

-- the parameter sets, each with its name
unfoldable pub sets_of : Place → Reading NamedSets
sets_of at = do
  tables ← tables 15 (key "set") SET_COUNT at
  sets ← entries set_of 16 (key "name") tables
  Ok (record { sets = sets; names = map (name_of (key "name")) tables })
