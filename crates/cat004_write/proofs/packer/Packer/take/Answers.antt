use Rattle.std.proofs.Common.{sym, ◌∙◌, subst}
use Rattle.cat004_write.specs.Blocks.{Held, Packs}
use Rattle.cat004_write.proofs.Packings.{Packs-all, octets-parts}
use Rattle.cat004_write.proofs.packer.Packer.take.Goals as goal

pub returns-clause-blocks : goal.returns-clause-blocks
returns-clause-blocks c ms h =
    let P : Held → Type 0 = λ p. Packs p.blocks ms in
    let held : P c.args.self.now = h in
    rw c.replace.ensures.value
    (sym (octets-parts c.self.inside.bytes.items c.self.inside.last c.self.invariant.0) ∙ Packs-all _ ms (subst P (sym c.self.view_is) held))
