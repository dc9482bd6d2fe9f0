use Rattle.std.proofs.Common.{◌≡◌, ◌≤◌, ◌^◌, unsigned_abs, arith, w64}
use Rattle.std.proofs.lemmas.Int.{to_z-of_z}
use Rattle.polygon_plan.proofs.Fits.{AreLines, are_lines, as_is, difference_is, less_fits, less_is, line_in, neg_fits, neg_is}
use Rattle.polygon_plan.proofs.Lines.{slope_of, start_of, where_left}
use Rattle.polygon_plan.proofs.edge.Edge.ticks_left.Goals as goal
use Rattle.polygon_plan.proofs.edge.Edge.ticks_left.Goals.{After-cross-start}

lines : (c : After-cross-start) → AreLines c.args.m.now c.args.self.now.from c.args.self.now.to
lines c = are_lines c.args.m.now c.args.self.now.from c.args.self.now.to c.requires.motion c.args.self.now.from_near c.args.self.now.to_near

slope : (c : After-cross-start) → c.cross-slope.result ≡ slope_of c.args.m.now c.args.self.now.from c.args.self.now.to
slope c =
    let range_vx = c.requires.motion.vx in
    let range_vy = c.requires.motion.vy in
    let from_x = c.args.self.now.from_near.x in
    let from_y = c.args.self.now.from_near.y in
    let to_x = c.args.self.now.to_near.x in
    let to_y = c.args.self.now.to_near.y in
    rw (
      as_is c.args.m.now.vx (omega arith),
      as_is c.args.m.now.vy (omega arith),
      difference_is c.args.self.now.to.0 c.args.self.now.from.0 (omega arith) (omega arith),
      difference_is c.args.self.now.to.1 c.args.self.now.from.1 (omega arith) (omega arith),
    ) at c.cross-slope.ensures

start : (c : After-cross-start) → c.cross-start.result ≡ start_of c.args.m.now c.args.self.now.from c.args.self.now.to
start c =
    let range_x = c.requires.motion.x in
    let range_y = c.requires.motion.y in
    let from_x = c.args.self.now.from_near.x in
    let from_y = c.args.self.now.from_near.y in
    let to_x = c.args.self.now.to_near.x in
    let to_y = c.args.self.now.to_near.y in
    rw (
      difference_is c.args.m.now.x c.args.self.now.from.0 (omega arith) (omega arith),
      difference_is c.args.m.now.y c.args.self.now.from.1 (omega arith) (omega arith),
      difference_is c.args.self.now.to.0 c.args.self.now.from.0 (omega arith) (omega arith),
      difference_is c.args.self.now.to.1 c.args.self.now.from.1 (omega arith) (omega arith),
    ) at c.cross-start.ensures

slope_small : (c : After-cross-start) → unsigned_abs c.cross-slope.result ≤ 2 ^ 69
slope_small c = rw (slope c) (lines c).slope

start_small : (c : After-cross-start) → unsigned_abs c.cross-start.result ≤ 2 ^ 69
start_small c = rw (start c) (lines c).start

pub overflow_sub-slope : goal.overflow_sub-slope
overflow_sub-slope c = neg_fits c.cross-slope.result (slope_small c)

pub overflow_sub-start : goal.overflow_sub-start
overflow_sub-start c = neg_fits c.cross-start.result (start_small c)

pub overflow_sub-start-2 : goal.overflow_sub-start-2
overflow_sub-start-2 c = less_fits c.cross-start.result (start_small c)

pub linear-requires-clause-line : goal.linear-requires-clause-line
linear-requires-clause-line c =
    rw (neg_is c.cross-slope.result (slope_small c), less_is c.cross-start.result (start_small c)) (line_in c.cross-slope.result c.cross-start.result (slope_small c) (start_small c))

pub returns : goal.returns
returns c =
    let before = (goal.at.returns c).After-cross-start in
    where_left c.args.m.now c.args.self.now.from c.args.self.now.to c.args.l c.linear.result
    (rw (neg_is c.cross-slope.result (slope_small before), less_is c.cross-start.result (start_small before), slope before, start before, to_z-of_z w64 c.args.l c.ranges.l) at c.linear.ensures)
