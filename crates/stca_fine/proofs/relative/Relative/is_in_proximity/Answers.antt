use Rattle.std.proofs.Common.{sym, ◌∙◌, true≢false, arith, w64}
use Rattle.std.proofs.lemmas.Int.{to_z-of_z}
use Rattle.stca_fine.proofs.Apart.{as_is}
use Rattle.stca_fine.proofs.Within.{in_proximity, not_near, not_level}
use Rattle.stca_fine.proofs.relative.Relative.is_in_proximity.Goals as goal
use Rattle.stca_fine.proofs.relative.Relative.is_in_proximity.Goals.{then-is_near, else-is_near}

pub returns-then-is_within : goal.returns-then-is_within
returns-then-is_within c =
    elim c.if-is_near.branch [
      | then-is_near w ↦
          (let apart = c.self.invariant.2.apart in
          let near = rw (to_z-of_z w64 c.args.h c.ranges.h) at c.is_near.ensures in
          let level = rw (as_is c.self.inside.dz (omega arith), to_z-of_z w64 c.args.v c.ranges.v) at w.is_within.ensures in
          c.is_closing.ensures ∙ sym (in_proximity c.args.self.now c.args.h c.args.v (sym near ∙ w.if-is_near.true) (rw (← c.self.view_is) (sym level ∙ sym w.value-is ∙ c.if-is_within.true))))
      | else-is_near w ↦ absurd (true≢false (sym c.if-is_within.true ∙ w.value-is ∙ w.if-is_near.false))
    ]

pub returns-else-is_within : goal.returns-else-is_within
returns-else-is_within c =
    elim c.if-is_near.branch [
      | then-is_near w ↦
          (let apart = c.self.invariant.2.apart in
          let level = rw (as_is c.self.inside.dz (omega arith), to_z-of_z w64 c.args.v c.ranges.v) at w.is_within.ensures in
          c.if-is_within.false ∙ sym (not_level c.args.self.now c.args.h c.args.v (rw (← c.self.view_is) (sym level ∙ sym w.value-is ∙ c.if-is_within.false))))
      | else-is_near w ↦
          (let near = rw (to_z-of_z w64 c.args.h c.ranges.h) at c.is_near.ensures in
          c.if-is_within.false ∙ sym (not_near c.args.self.now c.args.h c.args.v (sym near ∙ w.if-is_near.false)))
    ]
