use Rattle.std.proofs.Common.{◌≡◌, ◌≤◌, Ok, take, All, length}
use Rattle.site_fields.specs.Lists.{each, number_in}
use Rattle.site_fields.proofs.lists.numbers_in.Given as goal

pub record Reads (l : goal.Live-loop-number) : Type 0 where
  pub so_far : each (number_in l.limits l.at) (take l.number-index l.numbers) ≡ Ok l.found.items
  pub inside : All (λ number. number ≤ l.limits.highest) l.found.items
  pub count : length l.found.items ≡ l.number-index

abbrev pub invariant-loop-number : goal.invariant-loop-number
invariant-loop-number l = Reads l
