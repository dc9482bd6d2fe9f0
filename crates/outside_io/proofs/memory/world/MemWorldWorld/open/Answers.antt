-- what the world tells, by the source under the name
use Rattle.std.proofs.Common.{ap, ◌∙◌, sym, refl}
use Rattle.outside_io.specs.Memory.{source_of}
use Rattle.outside_io.proofs.Told.{has-bytes, lacks-bytes, opens-copy}
use Rattle.outside_io.proofs.memory.world.MemWorldWorld.open.Goals as goal

pub returns-in-None-clause-no_such : goal.returns-in-None-clause-no_such
returns-in-None-clause-no_such c = λ _. (
  _,
  refl,
  lacks-bytes c.args.name.now c.args.self.now.files.items (ap (source_of c.args.name.now) (sym c.deref-2.ensures.value) ∙ sym c.in-None.ensures),
)

pub returns-in-Some-clause-wanting : goal.returns-in-Some-clause-wanting
returns-in-Some-clause-wanting c = λ _. has-bytes c.args.name.now c.args.self.now.files.items c.in-Some.field-0.now
    (ap (source_of c.args.name.now) (sym c.deref-2.ensures.value) ∙ sym c.in-Some.ensures)

pub returns-in-Err-clause-wanting : goal.returns-in-Err-clause-wanting
returns-in-Err-clause-wanting c = λ _. has-bytes c.args.name.now c.args.self.now.files.items c.in-Some.field-0.now
    (ap (source_of c.args.name.now) (sym c.deref-2.ensures.value) ∙ sym c.in-Some.ensures)

pub returns-in-Ok-clause-bytes : goal.returns-in-Ok-clause-bytes
returns-in-Ok-clause-bytes c = opens-copy c.args.name.now c.args.self.now.files.items c.in-Some.field-0.now c.in-Ok.feed
    (ap (source_of c.args.name.now) (sym c.deref-2.ensures.value) ∙ sym c.in-Some.ensures)
    c.in-Ok.ensures
