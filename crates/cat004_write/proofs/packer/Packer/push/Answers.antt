use Rattle.std.proofs.Common.{◌≡◌, ℕ, ◌+◌, ◌-◌, ◌≤◌, ◌<◌, ◌⊎◌, List, length, take, inl, inr, sym, subst, arith}
use Rattle.std.proofs.lemmas.Bool.Decides.{nat_tests}
use Rattle.std.proofs.lemmas.List.{length-take}
use Rattle.cat004_write.specs.declared.message.TheConstants.{MESSAGE_ROOM}
use Rattle.cat004_write.specs.declared.packer.TheConstants.{PACKED_ROOM}
use Rattle.cat004_write.specs.Blocks.{Held, Packs}
use Rattle.cat004_write.proofs.Packings.{IsWhole-begun, IsWhole-joined, Packs-block_begun, Packs-block_joined, room_of, spare_left}
use Rattle.cat004_write.proofs.packer.Packer.push.Goals as goal
use Rattle.cat004_write.proofs.packer.Packer.push.Goals.{then-length-eq0-via-then-length-eq0, then-length-eq0-via-else-length-eq0+then-length-message-gt-PACKED_ROOM}

pub invariant_of-self-then-length-eq0 : goal.invariant_of-self-then-length-eq0
invariant_of-self-then-length-eq0 c =
    let m : List ℕ = take c.args.m.now.len c.args.m.now.bytes in
    let some : 0 < length m = grind (arith, nat_tests) in
    let small : length m ≤ MESSAGE_ROOM = omega (arith, length-take c.args.m.now.len c.args.m.now.bytes) in (
      IsWhole-begun c.self.inside.bytes.items c.begin_block.new.bytes.items m c.len-offset.result (omega arith) some small (c.in_ok-begin_block.ensures.ok),
      spare_left _ _ _ _ _ _ c.self.invariant.1 c.begin_block.ensures.capacity c.begin_block.new.bytes.ok.1 (omega (arith, small, c.in_ok-begin_block.ensures.len)) (omega arith),
    )

pub returns-then-length-eq0-clause-ok : goal.returns-then-length-eq0-clause-ok
returns-then-length-eq0-clause-ok c ms h =
    let m : List ℕ = take c.args.m.now.len c.args.m.now.bytes in
    let old : List ℕ = c.self.inside.bytes.items in
    let small : length m ≤ MESSAGE_ROOM = omega (arith, length-take c.args.m.now.len c.args.m.now.bytes) in
    let full : (length old - c.self.inside.last ≡ 0) ⊎ (PACKED_ROOM < length old - c.self.inside.last + length m) =
    elim c.then-length-eq0.branch [ then-length-eq0-via-then-length-eq0 w ↦ inl (omega arith) | then-length-eq0-via-else-length-eq0+then-length-message-gt-PACKED_ROOM w ↦ inr (omega arith) ] in
    let P : Held → Type 0 = λ p. Packs p.blocks ms in
    let held : P c.args.self.now = h in
    Packs-block_begun old c.begin_block.new.bytes.items m c.self.inside.last c.len-offset.result ms c.self.invariant.0 full small (omega arith) c.in_ok-begin_block.ensures.ok (subst P (sym c.self.view_is) held)

pub extend_block-requires : goal.extend_block-requires
extend_block-requires c =
    room_of c.self.inside.bytes.items _ c.self.inside.last c.self.invariant.0 (omega arith) (omega arith)

pub invariant_of-self-2 : goal.invariant_of-self-2
invariant_of-self-2 c =
    let m : List ℕ = take c.args.m.now.len c.args.m.now.bytes in
    let small : length m ≤ MESSAGE_ROOM = omega (arith, length-take c.args.m.now.len c.args.m.now.bytes) in (
      IsWhole-joined c.self.inside.bytes.items c.extend_block.new.bytes.items m c.self.inside.last c.self.invariant.0 (omega arith) (omega arith) c.in_ok-extend_block.ensures.ok,
      spare_left _ _ _ _ _ _ c.self.invariant.1 c.extend_block.ensures.capacity c.extend_block.new.bytes.ok.1 (omega (arith, small, c.in_ok-extend_block.ensures.len)) (omega arith),
    )

pub returns-clause-ok : goal.returns-clause-ok
returns-clause-ok c ms h =
    let m : List ℕ = take c.args.m.now.len c.args.m.now.bytes in
    let P : Held → Type 0 = λ p. Packs p.blocks ms in
    let held : P c.args.self.now = h in
    Packs-block_joined c.self.inside.bytes.items c.extend_block.new.bytes.items m c.self.inside.last ms c.self.invariant.0 (omega arith) (omega arith) c.in_ok-extend_block.ensures.ok (subst P (sym c.self.view_is) held)
