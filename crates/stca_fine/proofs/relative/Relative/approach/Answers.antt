use Rattle.stca_fine.proofs.Apart.{scalar_bound, scalar_fits, scalar_is}
use Rattle.stca_fine.proofs.relative.Relative.approach.Goals as goal

pub overflow_add-result : goal.overflow_add-result
overflow_add-result c = scalar_fits c.self.inside.dx c.self.inside.dy c.self.inside.dvx c.self.inside.dvy c.self.invariant.0 c.self.invariant.1

pub returns-clause-value : goal.returns-clause-value
returns-clause-value c = rw (← c.self.view_is) (scalar_is c.self.inside.dx c.self.inside.dy c.self.inside.dvx c.self.inside.dvy c.self.invariant.0 c.self.invariant.1)

pub returns-clause-bound : goal.returns-clause-bound
returns-clause-bound c =
    rw (scalar_is c.self.inside.dx c.self.inside.dy c.self.inside.dvx c.self.inside.dvy c.self.invariant.0 c.self.invariant.1)
    (scalar_bound c.self.inside.dx c.self.inside.dy c.self.inside.dvx c.self.inside.dvy c.self.invariant.0 c.self.invariant.1)
