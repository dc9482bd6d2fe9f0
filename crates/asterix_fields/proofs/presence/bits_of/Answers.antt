use Rattle.asterix_fields.proofs.PresenceBits.{bits_tell}
use Rattle.asterix_fields.proofs.presence.bits_of.Goals as goal

pub returns : goal.returns
returns c =
    bits_tell c.args.octets.now c.seven_bits-first.result c.seven_bits.result c.seven_bits-2.result c.seven_bits-3.result c.seven_bits-4.result c.requires.few
    c.seven_bits-first.ensures.below c.seven_bits.ensures.below c.seven_bits-2.ensures.below c.seven_bits-3.ensures.below c.seven_bits-4.ensures.below
    c.seven_bits-first.ensures.value c.seven_bits.ensures.value c.seven_bits-2.ensures.value c.seven_bits-3.ensures.value c.seven_bits-4.ensures.value
