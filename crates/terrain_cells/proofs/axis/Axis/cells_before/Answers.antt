use Rattle.std.proofs.Common.{◌≡◌, ◌∙◌, ◌+◌, pos, ◌+ℤ◌, ◌-ℤ◌, ◌≤ℤ◌, unsigned_abs, arith, w64, to_z, of_z}
use Rattle.std.specs.Int.{int_min}
use Rattle.std.proofs.lemmas.Int.{ints}
use Rattle.tick_sets.specs.Steps.{IsQuotient}
use Rattle.terrain_cells.proofs.Counts.{counted_before, counted_few, counted_from, counted_low}
use Rattle.terrain_cells.proofs.Fits.{as_is, difference_is}
use Rattle.terrain_cells.proofs.axis.Axis.cells_before.Goals as goal
use Rattle.terrain_cells.proofs.axis.Axis.cells_before.Goals.{After-min}

told : (c : After-min) → IsQuotient (c.args.place -ℤ c.args.self.now.corner) c.args.self.now.side c.quotient.result
told c =
    let range = c.args.self.now.range in
    let corner = range.corner_near in
    let side_low = range.side_long.low in
    let side_high = range.side_long.high in
    let place = c.requires.place in
    rw (difference_is c.args.place c.args.self.now.corner (omega arith) (omega arith), as_is c.args.self.now.side (omega (arith, ints))) at c.quotient.ensures.quotient

small : (c : After-min) → c.quotient.result ≤ℤ (c.args.place -ℤ c.args.self.now.corner)
small c =
    let corner = c.args.self.now.range.corner_near in
    let place = c.requires.place in
    rw (difference_is c.args.place c.args.self.now.corner (omega arith) (omega arith)) at c.quotient.ensures.not_above

least : (c : After-min) → to_z w64 (of_z w64 c.min.result) ≡ int_min c.quotient.result (pos c.args.self.now.count)
least c =
    let quotient = told c in
    let low = quotient.low in
    let high = small c in
    let corner = c.args.self.now.range.corner_near in
    let place = c.requires.place in
    let few = c.args.self.now.range.count_few in
    let counted = c.from.ensures in
    let value = rw (as_is c.quotient.result (omega (arith, ints)), as_is c.from.result (omega (arith, ints)), counted) at c.min.ensures.value in
    let m_low = counted_low _ _ c.quotient.result c.min.result c.args.self.now.count quotient value in
    let m_high = counted_few c.quotient.result c.min.result c.args.self.now.count value in
    as_is c.min.result (omega (arith, ints)) ∙ value

pub overflow_cast-result : goal.overflow_cast-result
overflow_cast-result c =
    let few = c.args.self.now.range.count_few in
    let low = counted_low _ _ c.quotient.result _ c.args.self.now.count (told c) (least c) in
    let high = counted_few c.quotient.result _ c.args.self.now.count (least c) in
    let natural : to_z w64 (of_z w64 c.min.result) ≡ pos (unsigned_abs (to_z w64 (of_z w64 c.min.result))) = omega (arith, ints) in
    (rw natural tt, omega (arith, ints))

pub returns-clause-few : goal.returns-clause-few
returns-clause-few c =
    let low = counted_low _ _ c.quotient.result _ c.args.self.now.count (told c) (least c) in
    let high = counted_few c.quotient.result _ c.args.self.now.count (least c) in
    omega (arith, ints)

natural : (c : After-min) → to_z w64 (of_z w64 c.min.result) ≡ pos (unsigned_abs (to_z w64 (of_z w64 c.min.result)))
natural c = let low = counted_low _ _ c.quotient.result _ c.args.self.now.count (told c) (least c) in omega (arith, ints)

pub returns-clause-from : goal.returns-clause-from
returns-clause-from c =
    let side_low = c.args.self.now.range.side_long.low in
    rw (natural (goal.at.returns-clause-from c).After-min) at
    (counted_from c.args.self.now.corner c.args.self.now.side c.args.place c.quotient.result _ c.args.self.now.count (omega (arith, ints)) (told (goal.at.returns-clause-from c).After-min) (least (goal.at.returns-clause-from c).After-min))

pub returns-clause-before : goal.returns-clause-before
returns-clause-before c = λ few.
    let at = (goal.at.returns-clause-before c).After-min in
    let whole = natural at in
    let next : to_z w64 (of_z w64 c.min.result) +ℤ pos 1 ≡ pos (unsigned_abs (to_z w64 (of_z w64 c.min.result)) + 1) = omega (arith, ints) in
    rw next at (counted_before c.args.self.now.corner c.args.self.now.side c.args.place c.quotient.result _ c.args.self.now.count (told at) (least at) (omega (arith, ints)))
