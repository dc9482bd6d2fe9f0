use Rattle.std.proofs.Common.{arith, ◌∙◌, sym, w64}
use Rattle.std.proofs.lemmas.Int.{to_z-of_z}
use Rattle.stca_fine.proofs.Apart.{as_is, far_along_x, far_along_y}
use Rattle.stca_fine.proofs.relative.Relative.is_near.Goals as goal
use Rattle.stca_fine.proofs.relative.Relative.is_near.Goals.{then-is_within, else-is_within}

pub returns-else-is_within-2 : goal.returns-else-is_within-2
returns-else-is_within-2 c =
    elim c.if-is_within.branch [
      | then-is_within w ↦
          (let apart = c.self.invariant.1.apart in
          let far = rw (as_is c.self.inside.dy (omega arith), to_z-of_z w64 c.args.limit c.ranges.limit) at w.is_within-then-is_within.ensures in
          c.if-is_within-2.false ∙ sym (rw (← c.self.view_is) (far_along_y c.self.inside.dx c.self.inside.dy c.args.limit c.requires (sym far ∙ sym w.value-is ∙ c.if-is_within-2.false))))
      | else-is_within w ↦
          (let apart = c.self.invariant.0.apart in
          let far = rw (as_is c.self.inside.dx (omega arith), to_z-of_z w64 c.args.limit c.ranges.limit) at c.is_within.ensures in
          c.if-is_within-2.false ∙ sym (rw (← c.self.view_is) (far_along_x c.self.inside.dx c.self.inside.dy c.args.limit c.requires (sym far ∙ w.if-is_within.false))))
    ]
