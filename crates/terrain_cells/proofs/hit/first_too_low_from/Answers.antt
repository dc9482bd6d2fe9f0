use Rattle.std.proofs.Common.{rules, ap, pos, ◌+ℤ◌, ◌≤ℤ◌, ◌<ℤ◌, FitsSigned, arith, w64, to_z, of_z}
use Rattle.std.proofs.lemmas.Int.{ints, to_z-of_z}
use Rattle.terrain_cells.specs.Msaw.{is_too_low_at, is_under_at}
use Rattle.terrain_cells.specs.declared.axis.Stay.{Stay}
use Rattle.terrain_cells.proofs.Lines.{le_not}
use Rattle.terrain_cells.proofs.Walking.{AreSame, IsTurn, found_here, kept_at_first, kept_on, none_at_all, none_here, same_in_stays, turn}
use Rattle.terrain_cells.proofs.hit.first_too_low_from.Goals as goal
use Rattle.terrain_cells.proofs.hit.first_too_low_from.Goals.{After-height_in-height}

pub loop-tick-init : goal.loop-tick-init
loop-tick-init c =
    let from_is = to_z-of_z w64 c.args.from c.ranges.from in
    let look_is = to_z-of_z w64 c.args.look c.ranges.look in
    let order = c.requires.ticks.order in
    let ahead : to_z w64 (of_z w64 c.args.from) ≤ℤ to_z w64 (of_z w64 c.args.look) = omega (arith, ints) in
    let column_over = ap (λ (stay : Stay). stay.last) c.over-column.ensures in
    let row_over = ap (λ (stay : Stay). stay.last) c.over-row.ensures in
    record {
      from = omega (arith, ints);
      until = omega (arith, ints);
      clear = λ t low before. absurd (omega (arith, ints));
      column = kept_at_first c.of_columns-columns.result _ _ c.over-column.result ahead (omega (arith, ints));
      row = kept_at_first c.of_rows-rows.result _ _ c.over-row.result ahead (omega (arith, ints));
    }

-- ---- the turn in which the track stays in a column and in a row
begun : (c : After-height_in-height) → pos 0 ≤ℤ to_z w64 c.loop-tick.tick-bits
begun c =
    let from_is = to_z-of_z w64 c.args.from c.ranges.from in
    let low = c.requires.ticks.first.low in
    let later = c.loop-tick.invariant.from in
    omega (arith, ints)

both : (c : After-height_in-height) → IsTurn (to_z w64 c.loop-tick.tick-bits) (to_z w64 (of_z w64 c.args.look)) c.stay_at-column.result.last c.stay_at-row.result.last c.min-last.result
both c =
    let look_is = to_z-of_z w64 c.args.look c.ranges.look in
    let high = c.requires.ticks.last.high in
    let column = c.stay_at-column.ensures in
    let row = c.stay_at-row.ensures in
    turn (to_z w64 c.loop-tick.tick-bits) (to_z w64 (of_z w64 c.args.look)) c.stay_at-column.result.last c.stay_at-row.result.last c.min-last.result
    (begun c) (omega (arith, ints)) column.not_before column.kept.not_after row.not_before row.kept.not_after c.min-last.ensures.value

same : (c : After-height_in-height) → AreSame (is_too_low_at c.args.m.now c.args.terrain.now) (is_under_at c.args.m.now c.height_in-height.result) (to_z w64 c.loop-tick.tick-bits) c.min-last.result
same c =
    rw (← c.height_in-height.ensures) at
    (same_in_stays c.args.m.now c.args.terrain.now c.of_columns-columns.result c.of_rows-rows.result c.stay_at-column.result c.stay_at-row.result (to_z w64 c.loop-tick.tick-bits) (to_z w64 (of_z w64 c.args.look)) c.min-last.result
    c.of_columns-columns.ensures c.of_rows-rows.ensures c.stay_at-column.ensures c.stay_at-row.ensures (both c).least)

pub first_under-requires-clause-ticks : goal.first_under-requires-clause-ticks
first_under-requires-clause-ticks c =
    let look_is = to_z-of_z w64 c.args.look c.ranges.look in
    let high = c.requires.ticks.last.high in
    let low = begun c in
    let from = (both c).low in
    let to = (both c).high in
    rw (both c).kept (record {
      first = record { low = low; high = omega (arith, ints) };
      last = record { low = omega (arith, ints); high = omega (arith, ints) };
      order = from;
    })

pub returns-in-Some : goal.returns-in-Some
returns-in-Some c =
    let at = (goal.at.returns-in-Some c).After-height_in-height in
    let from_is = to_z-of_z w64 c.args.from c.ranges.from in
    let look_is = to_z-of_z w64 c.args.look c.ranges.look in
    let fits : FitsSigned w64 c.in-Some.first = search rules in
    let found = rw (both at).kept at c.in-Some.ensures in
    rw (to_z-of_z w64 c.in-Some.first fits)
    (found_here (is_too_low_at c.args.m.now c.args.terrain.now) (is_under_at c.args.m.now c.height_in-height.result) c.args.from (to_z w64 c.loop-tick.tick-bits) c.min-last.result c.args.look c.in-Some.first
    (rw from_is at c.loop-tick.invariant.from) (rw look_is at (both at).high) (rw from_is at c.loop-tick.invariant.clear) (same at) found)

pub loop-tick-smaller : goal.loop-tick-smaller
loop-tick-smaller c =
    let at = (goal.at.loop-tick-smaller c).After-height_in-height in
    let from = (both at).low in
    let to = (both at).high in
    let next = (both at).next in
    omega (arith, ints)

pub loop-tick-preserved : goal.loop-tick-preserved
loop-tick-preserved c =
    let at = (goal.at.loop-tick-preserved c).After-height_in-height in
    let order = c.loop-tick.invariant.from in
    let from = (both at).low in
    let to = (both at).high in
    let later : to_z w64 c.loop-tick.tick-bits ≤ℤ (c.min-last.result +ℤ pos 1) = omega (arith, ints) in
    let fails = rw (both at).kept at c.in_default.ensures in
    rw (both at).next (record {
      from = omega (arith, ints);
      until = omega (arith, ints);
      clear = none_here (is_too_low_at c.args.m.now c.args.terrain.now) (is_under_at c.args.m.now c.height_in-height.result) (to_z w64 (of_z w64 c.args.from)) (to_z w64 c.loop-tick.tick-bits) c.min-last.result c.loop-tick.invariant.clear (same at) fails;
      column = kept_on c.of_columns-columns.result (to_z w64 c.loop-tick.tick-bits) _ _ c.stay_at-column.result later c.stay_at-column.ensures;
      row = kept_on c.of_rows-rows.result (to_z w64 c.loop-tick.tick-bits) _ _ c.stay_at-row.result later c.stay_at-row.ensures;
    })

pub returns : goal.returns
returns c =
    let from_is = to_z-of_z w64 c.args.from c.ranges.from in
    let look_is = to_z-of_z w64 c.args.look c.ranges.look in
    let over : c.args.look <ℤ to_z w64 c.loop-tick.tick-bits = rw look_is at (le_not (to_z w64 c.loop-tick.tick-bits) (to_z w64 (of_z w64 c.args.look)) c.loop-tick-test.false) in
    none_at_all (is_too_low_at c.args.m.now c.args.terrain.now) c.args.from (to_z w64 c.loop-tick.tick-bits) c.args.look (rw from_is at c.loop-tick.invariant.clear) over
