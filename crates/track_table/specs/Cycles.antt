-- Which cycles are made of records, and their tables (this project's profile).
use Rattle.std.specs.Prelude.{ℕ, ◌+◌, zero, suc, max, List, [], ◌∷◌, ℤ}
use Rattle.track_motion.specs.declared.rank.Stamped.{Stamped}
use Rattle.track_table.specs.Proper.{frozen_of}
use Rattle.track_table.specs.declared.table.Frozen.{Frozen}

-- how many cycles are made of records: those up to the last that one was told in, and none without a record
abbrev pub cycles_of : List Stamped → ℕ
cycles_of [] = 0
cycles_of (s ∷ others) = max (s.window + 1) (cycles_of others)

-- the tables of the first cycles, so many, over all records; the newest first
abbrev pub tables_of : ℤ → ℤ → ℤ → List Stamped → ℕ → List Frozen
tables_of start period timeout records zero = []
tables_of start period timeout records (suc k) = frozen_of start period timeout k records ∷ tables_of start period timeout records k
