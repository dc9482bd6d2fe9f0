use Rattle.std.proofs.Common.{ap, ◌∙◌, append-nil}
use Rattle.asterix_blocks.specs.Framing.{Framing}
use Rattle.asterix_blocks.proofs.Spellings.{framing-spelled, Consists-blocks}
use Rattle.asterix_blocks.proofs.laws.blocks_read_as_written.Goals as goal

pub returns-clause-read : goal.returns-clause-read
returns-clause-read c feed written rest h = record {
  same_blocks = ap (λ (f : Framing). f.blocks) (framing-spelled feed written rest h) ∙ append-nil written;
  same_end = ap (λ (f : Framing). f.end) (framing-spelled feed written rest h);
}

pub returns-clause-all : goal.returns-clause-all
returns-clause-all c feed octets = Consists-blocks feed octets
