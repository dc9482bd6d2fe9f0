use Rattle.std.proofs.Common.{◌++◌, ℕ, length-append, length-drop, arith}
use Rattle.std.proofs.lemmas.List.{length-take}
use Rattle.asterix_tests.proofs.tests.blocks.frame_by.Goals as goal

pub loop-at-preserved : goal.loop-at-preserved
loop-at-preserved c =
    let before = c.loop-at.invariant.fed in
    record {
      within = omega (arith, length-take {A = ℕ}, length-drop {A = ℕ});
      fed = (
        before.0 ++ _,
        omega (arith, length-append {A = ℕ}, before.1),
        c.in_ok-take_blocks.ensures.given.cuts _ (c.in_ok-feed.ensures.fed _ _ before.2),
      );
    }
