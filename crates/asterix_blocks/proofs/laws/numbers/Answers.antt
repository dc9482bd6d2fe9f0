use Rattle.std.proofs.Common.{refl}
use Rattle.asterix_blocks.specs.Framing.{framing_within}
use Rattle.asterix_blocks.proofs.laws.numbers.Goals as goal

pub returns-clause-blocks : goal.returns-clause-blocks
unfolding framing_within
returns-clause-blocks c = record {
  length = refl;
  one = refl;
  second = refl;
  clean = refl;
  too_short = refl;
  cut_off = refl;
}
