-- How many cycles are made of records.
use Rattle.std.proofs.Common.{◌+◌, ◌<◌, ◌≤◌, ℕ, max, List, [], ◌∷◌, arith}
use Rattle.std.specs.List.{All, AllByRecursion, Contains}
use Rattle.std.proofs.lemmas.List.Elements.{All-contains, All-from_recursion, recursion_from_All}
use Rattle.track_motion.specs.declared.rank.Stamped.{Stamped}
use Rattle.track_table.specs.Cycles.{cycles_of}
use Rattle.track_table.proofs.TableRows.{each_weaker}

each_within : (rs : List Stamped) → AllByRecursion (λ r. r.window + 1 ≤ cycles_of rs) rs
each_within [] = tt
each_within (r ∷ rs) = (omega arith, each_weaker (λ t. t.window + 1 ≤ cycles_of rs) (λ t. t.window + 1 ≤ max (r.window + 1) (cycles_of rs)) (λ t within. omega arith) rs (each_within rs))

pub told_within : (rs : List Stamped) (r : Stamped) → Contains rs r → r.window < cycles_of rs
told_within rs r has =
    let within : r.window + 1 ≤ cycles_of rs = All-contains (λ t. t.window + 1 ≤ cycles_of rs) rs r (All-from_recursion (λ t. t.window + 1 ≤ cycles_of rs) rs (each_within rs)) has in
    omega arith

few_cycles : (k : ℕ) (rs : List Stamped) → AllByRecursion (λ r. r.window < k) rs → cycles_of rs ≤ k
few_cycles k [] each = omega arith
few_cycles k (r ∷ rs) each = let here = each.0 in let others = few_cycles k rs each.1 in omega arith

pub no_more_cycles : (rs : List Stamped) (k : ℕ) → All (λ r. r.window < k) rs → cycles_of rs ≤ k
no_more_cycles rs k all = few_cycles k rs (recursion_from_All (λ (r : Stamped). r.window < k) rs all)
