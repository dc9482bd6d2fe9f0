-- no file before this one has the name
use Rattle.std.proofs.Common.{◌≡◌, drop}
use Rattle.outside_io.specs.Memory.{source_of}
use Rattle.outside_io.proofs.memory.world.find_source.Given as goal

abbrev pub invariant-loop-file : goal.invariant-loop-file
invariant-loop-file l = source_of l.name l.files ≡ source_of l.name (drop l.file-index l.files)
