use Rattle.std.proofs.Common.{◌++◌, take, arith}
use Rattle.std.proofs.lemmas.List.{length-append, length-take}
use Rattle.outside_io.proofs.Consumed.{consumes_more}
use Rattle.outside_io.proofs.text.read_text.Goals as goal

pub returns-in_err-extend_from_slice-clause-within : goal.returns-in_err-extend_from_slice-clause-within
returns-in_err-extend_from_slice-clause-within g c =
    let read = c.loop-room.invariant.read in
    let room = c.loop-room.invariant.room in
    let most = c.min-next.ensures in
    let bound = c.in-Ok.ensures.bound in
    let asked = length-take c.min-next.result c.loop-room.piece in
    let part = length-take c.in-Ok.count c.read.new.buf in
    let long = length-append c.loop-room.text.items (take c.in-Ok.count c.read.new.buf) in (
      c.loop-room.text.items ++ take c.in-Ok.count c.read.new.buf,
      consumes_more (g.S.Source.left c.args.source.now) (g.S.Source.left c.loop-room.source) (g.S.Source.left c.read.new.self) c.loop-room.text.items (take c.in-Ok.count c.read.new.buf) read c.in-Ok.ensures.bytes.0,
      omega arith,
    )
