use Rattle.cat004_write.proofs.Groups.{packs_groups}
use Rattle.cat004_write.proofs.laws.messages_in_full_blocks.Goals as goal

pub returns : goal.returns
returns c = packs_groups
