use Rattle.std.proofs.Common.{rules}
use Rattle.site_fields.proofs.pairs.pairs_of.Goals as goal

pub returns-clause-inside : goal.returns-clause-inside
returns-clause-inside c = record { count = search rules; each = search rules }
