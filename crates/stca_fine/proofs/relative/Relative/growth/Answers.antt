use Rattle.std.proofs.Common.{◌≡◌, ◌≤◌, ◌^◌, ◌∙◌, arith}
use Rattle.std.specs.Int.RustNames.{unsigned_abs}
use Rattle.std.proofs.lemmas.Int.{ints}
use Rattle.tick_sets.specs.Plane.{squared_length}
use Rattle.stca_fine.specs.Relative.{IsDrift}
use Rattle.stca_fine.proofs.Apart.{as_is_wide, drift_of_speed, growth_bound, scalar_is}
use Rattle.stca_fine.proofs.relative.Relative.growth.Goals as goal
use Rattle.stca_fine.proofs.relative.Relative.growth.Goals.{After-from}

along_x : (c : After-from) → IsDrift c.self.inside.dvx c.self.inside.dvx
along_x c = drift_of_speed c.self.inside.dx c.self.inside.dvx c.self.invariant.0

along_y : (c : After-from) → IsDrift c.self.inside.dvy c.self.inside.dvy
along_y c = drift_of_speed c.self.inside.dy c.self.inside.dvy c.self.invariant.1

value : (c : After-from) → c.from.result ≡ squared_length c.self.inside.dvx c.self.inside.dvy
value c = c.from.ensures ∙ scalar_is c.self.inside.dvx c.self.inside.dvy c.self.inside.dvx c.self.inside.dvy (along_x c) (along_y c)

bound : (c : After-from) → unsigned_abs c.from.result ≤ 2 ^ 33
bound c = rw (value c) (growth_bound c.self.inside.dvx c.self.inside.dvy (along_x c) (along_y c))

pub returns-clause-value : goal.returns-clause-value
returns-clause-value c = let b = bound c in rw (as_is_wide c.from.result (omega arith), ← c.self.view_is) (value c)

pub returns-clause-bound : goal.returns-clause-bound
returns-clause-bound c = let b = bound c in rw (as_is_wide c.from.result (omega arith)) (omega (arith, ints))
