use Rattle.std.proofs.Common.{ℕ, ◌%◌, ◌==◌, ap, ◌∙◌, w64}
use Rattle.std.proofs.lemmas.Int.{to_z-of_z}
use Rattle.polygon_plan.specs.Inside.{edges}
use Rattle.polygon_plan.proofs.Counts.{crossings_whole, turned_at}
use Rattle.polygon_plan.proofs.place.inside.Goals as goal

pub loop-i-preserved : goal.loop-i-preserved
loop-i-preserved c =
    let counted = rw (to_z-of_z w64 c.args.x c.ranges.x, to_z-of_z w64 c.args.y c.ranges.y) at c.counts-odd.ensures in
    let odd = rw (to_z-of_z w64 c.args.x c.ranges.x, to_z-of_z w64 c.args.y c.ranges.y) at c.loop-i.invariant in
    rw (to_z-of_z w64 c.args.x c.ranges.x, to_z-of_z w64 c.args.y c.ranges.y)
    (turned_at (edges c.args.points.now) c.loop-i.i (c.edge_at.result.from, c.edge_at.result.to) c.args.x c.args.y c.loop-i.odd c.counts-odd.result c.edge_at.ensures odd counted)

pub returns : goal.returns
returns c =
    let odd = rw (to_z-of_z w64 c.args.x c.ranges.x, to_z-of_z w64 c.args.y c.ranges.y) at c.loop-i.invariant in
    odd ∙ ap (λ (n : ℕ). n % 2 == 1) (crossings_whole c.args.points.now c.loop-i.i c.args.x c.args.y c.loop-i-test.false)
