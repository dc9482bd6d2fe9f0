use Rattle.asterix_fields.proofs.PresenceBits.{behind_one}
use Rattle.asterix_fields.proofs.presence.behind_first.Goals as goal

pub returns : goal.returns
returns c = λ from octets tells. behind_one from c.args.bits octets tells
