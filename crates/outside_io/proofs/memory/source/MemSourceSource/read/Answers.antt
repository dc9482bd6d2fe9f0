-- what the call gave are the next bytes, and none only at the end
use Rattle.std.proofs.Common.{◌≡◌, ◌-◌, length, drop, arith, length-drop, ap, ◌∙◌}
use Rattle.outside_io.proofs.Pieces.{consumes-next, nothing-left}
use Rattle.outside_io.proofs.memory.source.MemSourceSource.read.Goals as goal

pub returns-clause-bytes : goal.returns-clause-bytes
returns-clause-bytes c =
    let is : c.rest_of-left.result.now ≡ drop c.args.self.now.at c.args.self.now.bytes.items =
    c.rest_of-left.ensures ∙ ap (drop c.args.self.now.at) c.deref-2.ensures.value in
    let left : length c.rest_of-left.result.now ≡ length c.args.self.now.bytes.items - c.args.self.now.at =
    ap length is ∙ length-drop c.args.self.now.at c.args.self.now.bytes.items in (
      consumes-next c.args.self.now.bytes.items c.rest_of-left.result.now c.copy_to_front.new.buf c.args.self.now.at c.bounded_from_one-count.result is (omega arith) c.copy_to_front.ensures,
      λ none room. nothing-left c.args.self.now.bytes.items c.args.self.now.at c.bounded_from_one-count.result (omega arith),
    )
