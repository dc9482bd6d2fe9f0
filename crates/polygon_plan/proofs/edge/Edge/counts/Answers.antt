use Rattle.std.proofs.Common.{◌≡◌, ◌∙◌, sym, ap, Bool, ◌&&◌, int_le, int_lt, ◌-ℤ◌, arith, w64}
use Rattle.std.proofs.lemmas.Bool.{and_left}
use Rattle.std.proofs.lemmas.Int.{to_z-of_z}
use Rattle.polygon_plan.specs.Sides.{cross_product}
use Rattle.polygon_plan.proofs.Fits.{as_is, as_is_wide}
use Rattle.polygon_plan.proofs.Turns.{left_test}
use Rattle.polygon_plan.proofs.edge.Edge.counts.Goals as goal
use Rattle.polygon_plan.proofs.edge.Edge.counts.Goals.{then-edge-y, else-edge-y, After-cross_to, Joined-edge-y}

heights : (c : Joined-edge-y) → c.if-edge-y.value ≡ (int_le c.upward-edge.result.from.1 c.args.y && int_lt c.args.y c.upward-edge.result.to.1)
heights c =
    let from_y = c.upward-edge.result.from_near.y in
    let to_y = c.upward-edge.result.to_near.y in
    elim c.if-edge-y.branch [
      | then-edge-y w ↦
          (let above = rw (as_is c.upward-edge.result.from.1 (omega arith), to_z-of_z w64 c.args.y c.ranges.y) at w.if-edge-y.true in
          let value = rw (to_z-of_z w64 c.args.y c.ranges.y, as_is c.upward-edge.result.to.1 (omega arith)) at w.value-is in
          value ∙ ap (λ (b : Bool). b && int_lt c.args.y c.upward-edge.result.to.1) (sym above))
      | else-edge-y w ↦
          (let below = rw (as_is c.upward-edge.result.from.1 (omega arith), to_z-of_z w64 c.args.y c.ranges.y) at w.if-edge-y.false in
          let value = rw (as_is c.upward-edge.result.from.1 (omega arith), to_z-of_z w64 c.args.y c.ranges.y) at w.value-is in
          value ∙ below ∙ sym (and_left _ _ below))
    ]

pub returns-else-y-edge : goal.returns-else-y-edge
returns-else-y-edge c =
    c.if-y-edge.false ∙ sym (c.upward-edge.ensures c.args.x c.args.y ∙ and_left _ _ (sym (heights (goal.at.returns-else-y-edge c).Joined-edge-y) ∙ c.if-y-edge.false))

cross : (c : After-cross_to) → c.cross_to.result ≡ cross_product (c.args.x -ℤ c.upward-edge.result.from.0) (c.args.y -ℤ c.upward-edge.result.from.1) (c.upward-edge.result.to.0 -ℤ c.upward-edge.result.from.0) (c.upward-edge.result.to.1 -ℤ c.upward-edge.result.from.1)
cross c = rw (to_z-of_z w64 c.args.x c.ranges.x, to_z-of_z w64 c.args.y c.ranges.y) at c.cross_to.ensures.product

pub returns-then-y-edge : goal.returns-then-y-edge
returns-then-y-edge c =
    let small = c.cross_to.ensures.bound in
    rw (as_is_wide c.cross_to.result (omega arith))
    (left_test c.args.x c.args.y c.cross_to.result c.upward-edge.result.from c.upward-edge.result.to (sym (heights (goal.at.returns-then-y-edge c).Joined-edge-y) ∙ c.if-y-edge.true) (cross (goal.at.returns-then-y-edge c).After-cross_to) ∙
    sym (c.upward-edge.ensures c.args.x c.args.y))
