use Rattle.std.proofs.Common.{◌∙◌, w64}
use Rattle.std.proofs.lemmas.Int.{to_z-of_z}
use Rattle.polygon_plan.proofs.Fits.{Four, cross_fits, cross_is}
use Rattle.polygon_plan.proofs.edge.cross.Goals as goal
use Rattle.polygon_plan.proofs.edge.cross.Goals.{After-from-4}

four : (c : After-from-4) → Four c.args.x c.args.y c.args.u c.args.v
four c = record { x_fits = c.ranges.x; y_fits = c.ranges.y; u_fits = c.ranges.u; v_fits = c.ranges.v }

pub overflow_sub-result : goal.overflow_sub-result
overflow_sub-result c =
    let x = c.from.ensures ∙ to_z-of_z w64 c.args.x c.ranges.x in
    let v = c.from-2.ensures ∙ to_z-of_z w64 c.args.v c.ranges.v in
    let u = c.from-3.ensures ∙ to_z-of_z w64 c.args.u c.ranges.u in
    let y = c.from-4.ensures ∙ to_z-of_z w64 c.args.y c.ranges.y in
    rw (x, v, u, y) (cross_fits c.args.x c.args.y c.args.u c.args.v (four c))

pub returns : goal.returns
returns c =
    let x = c.from.ensures ∙ to_z-of_z w64 c.args.x c.ranges.x in
    let v = c.from-2.ensures ∙ to_z-of_z w64 c.args.v c.ranges.v in
    let u = c.from-3.ensures ∙ to_z-of_z w64 c.args.u c.ranges.u in
    let y = c.from-4.ensures ∙ to_z-of_z w64 c.args.y c.ranges.y in
    rw (x, v, u, y) (cross_is c.args.x c.args.y c.args.u c.args.v (four c))
