use Rattle.std.proofs.Common.{◌≡◌, ◌+◌, length, length-append, refl, append_assoc, arith}
use Rattle.site_types.specs.declared.net.Net.{Net}
use Rattle.site_types.specs.declared.net.Net.TheVariants.{Stca, Msaw, Apw, Apm}
use Rattle.alert_states.specs.declared.event.Subject.{Subject}
use Rattle.cat004_write.specs.Messages.{about, special_contents}
use Rattle.cat004_write.proofs.message.put_special.Goals as goal

two_octets : (s : Subject) (net : Net) → length (about s net) ≡ 2
two_octets s Stca = refl
two_octets s Msaw = refl
two_octets s Apw = refl
two_octets s Apm = refl

pub returns : goal.returns
returns c =
    let counted : length (special_contents c.args.e.now) + 1 ≡ 7 =
    omega (arith, two_octets c.args.e.now.subject c.args.e.now.subject.net, length-append (about c.args.e.now.subject c.args.e.now.subject.net)) in
    rw (c.put-3.ensures, c.put-2.ensures, c.put.ensures, c.about.ensures, c.flags.ensures, c.message_type.ensures, counted)
    (simp append_assoc)
