-- The tables of category 62 are well formed.
use Rattle.std.proofs.Common.{refl}
use Rattle.asterix_fields.specs.Tables.{WellFormed}
use Rattle.cat062_read.specs.declared.table.TheConstants.{CAT062, SUBS062}

pub tables_good : WellFormed CAT062.0 SUBS062.0
tables_good = refl
