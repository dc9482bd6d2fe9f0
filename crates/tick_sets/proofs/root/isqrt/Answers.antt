use Rattle.std.proofs.Common.{refl, ◌-◌, ◌/◌}
use lib.Count.{count_leading_zeros}
use Rattle.tick_sets.proofs.Roots.{root_is}
use Rattle.tick_sets.proofs.Newton.{leading_shift, wide_start}
use Rattle.tick_sets.proofs.root.isqrt.Goals as goal

pub overflow_sub-half : goal.overflow_sub-half
overflow_sub-half c = (leading_shift c.args.n _ c.ranges.n.fits c.if-n-lt18446744073709551616.false refl).zeros

pub overflow_cast-leading-2 : goal.overflow_cast-leading-2
overflow_cast-leading-2 c =
    record { fits = (leading_shift c.args.n _ c.ranges.n.fits c.if-n-lt18446744073709551616.false refl).word }

pub loop-root-init : goal.loop-root-init
loop-root-init c =
    let shift = leading_shift c.args.n ((65 - count_leading_zeros 128 c.args.n) / 2) c.ranges.n.fits c.if-n-lt18446744073709551616.false refl in
    wide_start c.args.n _ c.word_root-high.result c.min-root.result
    shift.some shift.few shift.leading c.word_root-high.ensures.bound
    c.word_root-high.ensures.square_le c.word_root-high.ensures.next_square_gt c.min-root.ensures

pub returns-then-n-lt18446744073709551616-clause-root : goal.returns-then-n-lt18446744073709551616-clause-root
returns-then-n-lt18446744073709551616-clause-root c =
    root_is c.args.n c.word_root.result c.word_root.ensures.square_le c.word_root.ensures.next_square_gt

pub returns-clause-root : goal.returns-clause-root
returns-clause-root c = root_is c.args.n c.loop-root.root c.loop-root-test.false c.loop-root.invariant.0
