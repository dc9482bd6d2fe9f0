use Rattle.std.proofs.Common.{rules}
use Rattle.std.proofs.lemmas.List.{length-map}
use Rattle.site_params.proofs.sets.sets_of.Goals as goal

pub returns-clause-inside : goal.returns-clause-inside
returns-clause-inside c = record {
  sets = record { count = search rules; each = search rules };
  names = search (rules, length-map);
}
