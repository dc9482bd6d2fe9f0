-- How many pairs there are.
use Rattle.std.proofs.Common.{◌≡◌, ℕ, ◌+◌, ◌*◌, ◌<◌, ◌≤◌, List, [], ◌∷◌, length, drop, pos, ap, arith}
use Rattle.std.proofs.lemmas.List.{drop_more}
use Rattle.cycle_workers.specs.declared.movers.Mover.{Mover}
use Rattle.cycle_workers.specs.Hits.{count_pairs}

few_pairs : (movers : List Mover) → length movers ≤ 4294967296 → count_pairs movers ≤ length movers * 4294967295
few_pairs [] few = omega arith
few_pairs (a ∷ others) few =
    let rest = few_pairs others (omega arith) in
    omega arith

-- they can be counted in 64 bits
pub countable : (movers : List Mover) → length movers ≤ 4294967296 → count_pairs movers < 18446744073709551616
countable movers few =
    let all = few_pairs movers few in
    omega arith

-- any
abbrev pub no_mover : Mover
no_mover = record { key = record { sac = 0; sic = 0; number = 0 }; motion = record { x = pos 0; y = pos 0; vx = pos 0; vy = pos 0; z = pos 0; alt = pos 0; vz = pos 0 }; set = 0 }

-- a row less
pub pairs_left : (movers : List Mover) (i : ℕ) → i < length movers → count_pairs (drop i movers) ≡ length (drop (i + 1) movers) + count_pairs (drop (i + 1) movers)
pairs_left movers i before = ap count_pairs (drop_more movers i no_mover before)
