-- When each net's alerts are on (this project's profile).
use Rattle.std.specs.Prelude.{codes as key, ℕ, ℤ, pos, unsigned_abs, List, [], ◌∷◌, length, Ok, Err}
use Rattle.toml.specs.Data.{as_integer}
use Rattle.site_fields.specs.declared.fault.Field.{Field}
use Rattle.site_fields.specs.declared.fault.SiteFault.TheVariants.{Range}
use Rattle.site_fields.specs.Kinds.{Reading, ◌>>=◌, Place, field, required, table}
use Rattle.site_fields.specs.Lists.{list_of}
use Rattle.site_fields.specs.Ranges.{within}
use Rattle.site_types.specs.declared.ranges.TheConstants.{CONFIRM_CYCLES, HOLD_CYCLES}
use Rattle.site_types.specs.declared.site.Confirm.{Confirm}

-- [m, n, hold] in range: n first, then m against it, then hold
unfoldable pub confirm_of : Field → ℤ → ℤ → ℤ → Reading Confirm
confirm_of at m n hold = do
  cycles ← within at CONFIRM_CYCLES n
  hits ← within at (record { low = pos 1; high = cycles }) m
  held ← within at HOLD_CYCLES hold
  Ok (record { m = unsigned_abs hits; n = unsigned_abs cycles; hold = unsigned_abs held })

-- the same of a list, whose length comes first
abbrev pub confirm_list : Field → List ℤ → Reading Confirm
confirm_list at (m ∷ n ∷ hold ∷ []) = confirm_of at m n hold
confirm_list at others = Err (Range at (pos (length others)))

-- when a net's alert is on
unfoldable pub confirm : ℕ → List ℕ → Place → Reading Confirm
confirm number key at = do
  value ← required number key at
  numbers ← list_of as_integer (field number at) value
  confirm_list (field number at) numbers

-- when each net's alerts are on
unfoldable pub confirms_of : Place → Reading (List Confirm)
confirms_of at = do
  at ← table 10 (key "confirm") at
  stca ← confirm 11 (key "stca") at
  msaw ← confirm 12 (key "msaw") at
  apw ← confirm 13 (key "apw") at
  apm ← confirm 14 (key "apm") at
  Ok (stca ∷ msaw ∷ apw ∷ apm ∷ [])
