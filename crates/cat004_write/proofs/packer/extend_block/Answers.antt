use Rattle.std.proofs.Common.{ap, arith, get_or}
use Rattle.cat004_write.proofs.Packings.{block_extended}
use Rattle.cat004_write.proofs.packer.extend_block.Goals as goal

pub returns-clause-ok : goal.returns-clause-ok
returns-clause-ok c =
    block_extended c.args.bytes.now.items c.extend_from_slice.new.self.items c.args.message.now c.args.offset _ _ _ c.requires c.in_ok-extend_from_slice.ensures.items (omega arith) (ap (λ z. get_or z 0 0) c.put16.ensures) (ap (λ z. get_or z 1 0) c.put16.ensures)
