-- the first region that holds the motion is none of those so far
use Rattle.std.proofs.Common.{◌≡◌, drop, find}
use Rattle.cycle_workers.specs.Eligible.{is_in_region}
use Rattle.cycle_workers.proofs.regions.set_of.Given as goal

abbrev pub invariant-loop-region : goal.invariant-loop-region
invariant-loop-region l = find (is_in_region l.m) (drop l.region-index l.regions) ≡ find (is_in_region l.m) l.regions
