use Rattle.std.proofs.Common.{arith, ◌≡◌, pos, w64, SFits, to_z, get_or}
use Rattle.std.proofs.lemmas.Int.{ints, to_z-of_z}
use Rattle.tick_sets.proofs.Ends.{answers, none_until, moves, stays}
use Rattle.tick_sets.proofs.parity.first_odd.Goals as goal
use Rattle.tick_sets.proofs.parity.first_odd.Goals.{then-tick-end+else-odd+else-last-end, else-tick-end}

pub returns-then-odd-clause-found : goal.returns-then-odd-clause-found
returns-then-odd-clause-found c =
    let fits_first : SFits w64 c.args.first = c.ranges.first in
    let fits_last : SFits w64 c.args.last = c.ranges.last in
    let walks = simp to_z-of_z at c.loop-end.invariant in
    answers c.args.ends.now c.args.first c.args.last _ c.loop-end.end-index c.loop-end.odd c.requires.sorted walks
    (omega arith) (λ inside. omega (arith, ints)) c.if-odd.true

pub returns-then-last-end-clause-none : goal.returns-then-last-end-clause-none
returns-then-last-end-clause-none c =
    let fits_first : SFits w64 c.args.first = c.ranges.first in
    let fits_last : SFits w64 c.args.last = c.ranges.last in
    let walks = simp to_z-of_z at c.loop-end.invariant in
    none_until c.args.ends.now c.args.first c.args.last _ c.loop-end.end-index c.loop-end.odd c.requires.sorted walks
    (omega arith) (λ inside. omega (arith, ints)) c.if-odd.false

pub returns-then-odd-2-clause-found : goal.returns-then-odd-2-clause-found
returns-then-odd-2-clause-found c =
    let fits_first : SFits w64 c.args.first = c.ranges.first in
    let fits_last : SFits w64 c.args.last = c.ranges.last in
    let walks = simp to_z-of_z at c.loop-end.invariant in
    answers c.args.ends.now c.args.first c.args.last _ c.loop-end.end-index c.loop-end.odd c.requires.sorted walks
    (omega arith) (λ inside. absurd (omega arith)) c.if-odd-2.true

pub returns-else-odd-2-clause-none : goal.returns-else-odd-2-clause-none
returns-else-odd-2-clause-none c =
    let fits_first : SFits w64 c.args.first = c.ranges.first in
    let fits_last : SFits w64 c.args.last = c.ranges.last in
    let walks = simp to_z-of_z at c.loop-end.invariant in
    none_until c.args.ends.now c.args.first c.args.last _ c.loop-end.end-index c.loop-end.odd c.requires.sorted walks
    (omega arith) (λ inside. absurd (omega arith)) c.if-odd-2.false

pub loop-end-preserved : goal.loop-end-preserved
loop-end-preserved c =
    elim c.if-tick-end.branch [
      | then-tick-end+else-odd+else-last-end w ↦
          (let next_is : to_z w64 c.if-tick-end.tick-bits ≡ get_or c.args.ends.now c.loop-end.end-index (pos 0) = omega (arith, ints) in
          moves c.args.ends.now _ _ _ _ c.loop-end.end-index c.loop-end.odd c.requires.sorted c.loop-end.invariant
          c.loop-end-test.true next_is (omega (arith, ints)) (omega (arith, ints)) w.if-odd.false)
      | else-tick-end w ↦
          (let same : to_z w64 c.if-tick-end.tick-bits ≡ to_z w64 c.loop-end.tick-bits = omega (arith, ints) in
          rw same (stays c.args.ends.now _ _ _ c.loop-end.end-index c.loop-end.odd c.loop-end.invariant (omega (arith, ints))))
    ]
