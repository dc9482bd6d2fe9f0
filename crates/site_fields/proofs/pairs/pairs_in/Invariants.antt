use Rattle.std.proofs.Common.{◌≡◌, Ok, take, All, length}
use Rattle.site_types.specs.Limits.{IsPair}
use Rattle.site_fields.specs.Lists.{each}
use Rattle.site_fields.specs.Pairs.{pair}
use Rattle.site_fields.proofs.pairs.pairs_in.Given as goal

pub record Reads (l : goal.Live-loop-two) : Type 0 where
  pub so_far : each (pair l.limits l.at) (take l.two-index l.numbers) ≡ Ok l.pairs.items
  pub inside : All (IsPair l.limits) l.pairs.items
  pub count : length l.pairs.items ≡ l.two-index

abbrev pub invariant-loop-two : goal.invariant-loop-two
invariant-loop-two l = Reads l
