-- the file here is the first with the name, or is passed
use Rattle.std.proofs.Common.{ap, ◌∙◌, sym}
use Rattle.outside_io.specs.Memory.{source_of}
use Rattle.outside_io.proofs.Told.{rest-begins, source-here, source-past}
use Rattle.outside_io.proofs.memory.world.find_source.Goals as goal

pub returns-then-eq : goal.returns-then-eq
returns-then-eq c = sym (c.loop-file.invariant
    ∙ ap (source_of c.args.name.now) (rest-begins c.args.files.now c.loop-file.file-index c.file-item.result c.loop-file-test.true c.file-item.is)
    ∙ source-here c.args.name.now c.file-item.result _ (cc))

pub loop-file-preserved : goal.loop-file-preserved
loop-file-preserved c = c.loop-file.invariant
    ∙ ap (source_of c.args.name.now) (rest-begins c.args.files.now c.loop-file.file-index c.file-item.result c.loop-file-test.true c.file-item.is)
    ∙ source-past c.args.name.now c.file-item.result _ (cc)
