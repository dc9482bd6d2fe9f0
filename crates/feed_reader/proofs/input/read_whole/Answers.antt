use Rattle.std.proofs.Common.{◌≡◌, ◌++◌, ◌≤◌, List, [], ℕ, length, length-take-le, take, drop, refl, ap, arith}
use Rattle.std.proofs.lemmas.List.{length-append, length-take, length-drop, take-append-le}
use Rattle.asterix_blocks.specs.Framing.{framing_within, blocks}
use Rattle.asterix_blocks.specs.Cutting.{Cuts}
use Rattle.asterix_blocks.specs.declared.blocks.End.{End}
use Rattle.asterix_blocks.specs.declared.TheConstants.{FEED_ROOM}
use Rattle.feed_reader.specs.Feeds.{Gathers}
use Rattle.feed_reader.specs.Content.{Content}
use Rattle.feed_reader.specs.Feeds.{content_as}
use Rattle.feed_reader.proofs.Read.{read_to_end, read_to_room, read_whatever, read_of_fed, read_of_bad, at_end_before, consumes_nothing, consumes_more, usable_is}
use Rattle.feed_reader.proofs.Usable.{few_of_fed}
use Rattle.feed_reader.proofs.input.read_whole.Goals as goal
use Rattle.feed_reader.proofs.input.read_whole.Goals.{then-loop-room-test+else-not-has_bad_length, else-loop-room-test, then-loop-room-test+then-not-has_bad_length+in-Ok+then-count-eq0}

nothing_framed : blocks [] ≡ []
unfolding framing_within
nothing_framed = refl

pub loop-room-init : goal.loop-room-init
loop-room-init g c =
    let none : c.nothing-gathered.result.records.items ≡ [] = c.nothing-gathered.ensures.records in
    record {
      read = ([], consumes_nothing (g.S.Source.left c.args.source.now), rw nothing_framed c.in_ok-cutter.ensures.start, rw nothing_framed c.nothing-gathered.ensures, refl);
      piece = refl;
      within = omega arith;
      placed = λ k d below. absurd (omega (arith, ap length none));
      kept = refl;
    }

pub loop-room-preserved : goal.loop-room-preserved
loop-room-preserved g c =
    let r = c.loop-room.invariant.read in
    let buffer : List ℕ = c.read.new.buf in
    let next : List ℕ = take c.in-Ok.count buffer in
    let rest : List ℕ = drop c.min-most.result c.loop-room.piece in
    let bound = c.in-Ok.ensures.bound in
    let size = c.read.auto.buf in
    let within : c.in-Ok.count ≤ length buffer = omega arith in
    let kept = simp length-take at c.read.auto.buf in
    let most = c.min-most.ensures in
    let piece = c.loop-room.invariant.piece in
    let room = c.loop-room.invariant.within in
    let whole = r.4 in
    let front : take c.in-Ok.count (buffer ++ rest) ≡ next = take-append-le c.in-Ok.count buffer rest within in
    let fed = c.in_ok-feed.ensures.fed r.0 (blocks r.0) r.2 in
    let told : Cuts c.add_blocks.new.cutter (r.0 ++ next) (blocks (r.0 ++ next)) × Gathers c.add_blocks.new.gathered (blocks (r.0 ++ next)) =
    rw front at (c.in_ok-add_blocks.ensures.added (r.0 ++ take c.in-Ok.count (buffer ++ rest)) (blocks r.0) fed r.3) in
    let taken = consumes_more (g.S.Source.left c.args.source.now) (g.S.Source.left c.loop-room.source) (g.S.Source.left c.read.new.self) r.0 next r.1 c.in-Ok.ensures.bytes.0 in
    let long : length next ≡ c.in-Ok.count = length-take-le c.in-Ok.count buffer within in
    let total = length-append r.0 next in
    let kept_so_far = c.loop-room.invariant.kept in
    let kept_here = c.in-Ok.ensures.cause.kept in
    record {
      read = (r.0 ++ next, taken, told.0, told.1, omega arith);
      piece = omega (arith, length-append buffer rest, length-drop c.min-most.result c.loop-room.piece);
      within = omega arith;
      placed = c.in_ok-add_blocks.ensures.placed c.loop-room.invariant.placed;
      kept = omega arith;
    }

pub new-requires-2 : goal.new-requires-2
new-requires-2 g c =
    let r = c.loop-room.invariant.read in
    let whole = r.4 in
    let within : length r.0 ≤ FEED_ROOM = omega arith in
    usable_is c.loop-room.gathered (blocks r.0) r.3 (few_of_fed c.usable_records_are_long.ensures r.0 c.loop-room.gathered.records.items within r.3.records)

pub returns-clause-told : goal.returns-clause-told
returns-clause-told g c =
    let r = c.loop-room.invariant.read in
    let ended : End = c.finish.result in
    let ends = c.finish.ensures.end r.0 (blocks r.0) r.2 in
    let input : Content = content_as c.loop-room.gathered ended in
    let left = g.S.Source.left c.args.source.now in
    let left_now = g.S.Source.left c.loop-room.source in
    let within : length r.0 ≤ FEED_ROOM = (let whole = r.4 in omega arith) in
    rw c.new-2.ensures (elim c.loop-room-test.branch [
      | then-loop-room-test+else-not-has_bad_length w ↦
          read_whatever left left_now r.0 input r.1 within
          (read_of_bad c.loop-room.cutter c.loop-room.gathered ended r.0 within r.2 r.3 ends w.if-not-has_bad_length.ensures.bad)
      | else-loop-room-test w ↦
          let none = w.loop-room-test.false in
          read_to_room left left_now r.0 input r.1 (let whole = r.4 in omega arith) (read_of_fed c.loop-room.gathered ended r.0 within r.3 ends)
      | then-loop-room-test+then-not-has_bad_length+in-Ok+then-count-eq0 w ↦
          let none = w.if-count-eq0.true in
          let kept = simp length-take at w.read.auto.buf in
          let most = w.min-most.ensures in
          let piece = c.loop-room.invariant.piece in
          let some = w.loop-room-test.true in
          read_to_end left left_now r.0 input r.1
          (at_end_before left_now (g.S.Source.left w.read.new.self) (rw none at w.in-Ok.ensures.bytes.0) (w.in-Ok.ensures.bytes.1 none (omega arith)))
          within (read_of_fed c.loop-room.gathered ended r.0 within r.3 ends)
    ])

pub returns-clause-tellable : goal.returns-clause-tellable
returns-clause-tellable g c =
    let r = c.loop-room.invariant.read in
    let whole = r.4 in
    let within : length r.0 ≤ FEED_ROOM = omega arith in
    rw c.new-2.ensures (record { placed = c.loop-room.invariant.placed; few = few_of_fed c.usable_records_are_long.ensures r.0 c.loop-room.gathered.records.items within r.3.records })
