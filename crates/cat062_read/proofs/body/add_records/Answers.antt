use Rattle.std.proofs.Common.{◌≡◌, ◌≤◌, ◌<◌, ◌++◌, List, [], ◌∷◌, length, arith, sym, refl, ap, ◌∙◌, append_assoc, drop}
use Rattle.std.specs.List.{All}
use Rattle.std.proofs.lemmas.List.{append-nil}
use Rattle.std.proofs.lemmas.List.Elements.{All-append, All-from_recursion}
use Rattle.cat062_read.specs.declared.record.Raw062.{Raw062}
use Rattle.cat062_read.specs.Records.{AddsSome, records}
use Rattle.cat062_read.specs.Tracks.{IsPlaced}
use Rattle.cat062_read.proofs.Bodies.{stops_refused, stops_whole, goes_on, GoesOn, read_some, read_within, on_err, some_left, nothing_left, placed_more}
use Rattle.cat062_read.proofs.body.add_records.Goals as goal

more : (c : goal.After-after-1) → GoesOn c.args.body.now c.loop-rest.rest.now c.loop-rest.invariant.front c.in-Ok.raw c.in-Ok.size
more c =
    goes_on c.read_as_spelled.ensures c.args.body.now c.loop-rest.rest.now c.loop-rest.invariant.front c.in-Ok.raw c.in-Ok.size c.loop-rest.invariant.same_records c.loop-rest.invariant.same_left
    (some_left (length c.loop-rest.rest.now) c.loop-rest-test.ensures) (sym c.in-Ok.ensures.reading)

-- what stands behind a list's own records stands there as a whole
whole : (old new front all : List Raw062) → new ≡ old ++ front → front ≡ all → new ≡ old ++ all
whole old new front all e f = e ∙ ap (λ (l : List Raw062). old ++ l) f

behind : (old new front : List Raw062) → new ≡ old ++ front → All IsPlaced front → All IsPlaced old → All IsPlaced new
behind old new front e placed before = rw e (All-append IsPlaced old front before placed)

pub loop-rest-init : goal.loop-rest-init
loop-rest-init c = record {
  front = [];
  behind = sym (append-nil c.args.list.now.items);
  same_records = refl;
  same_left = refl;
  fewer = omega arith;
  all_placed = All-from_recursion IsPlaced [] tt;
}

pub split_at-requires : goal.split_at-requires
split_at-requires c = read_within c.read_as_spelled.ensures c.loop-rest.rest.now c.in-Ok.raw c.in-Ok.size (sym c.in-Ok.ensures.reading)

pub loop-rest-smaller : goal.loop-rest-smaller
loop-rest-smaller c = rw c.split_at.ensures.back ((more c).fewer)

pub loop-rest-preserved : goal.loop-rest-preserved
loop-rest-preserved c =
    let on = more c in
    let front = c.loop-rest.invariant.front in
    let fewer : length (drop c.in-Ok.size c.loop-rest.rest.now) < length c.loop-rest.rest.now = on.fewer in
    let before : length c.loop-rest.rest.now ≤ length c.args.body.now = c.loop-rest.invariant.fewer in
    rw (c.split_at.ensures.back, c.in_ok-push-in-Ok.ensures.items)
    (record {
      front = front ++ c.in-Ok.raw ∷ [];
      behind = ap (λ (l : List Raw062). l ++ c.in-Ok.raw ∷ []) c.loop-rest.invariant.behind ∙ append_assoc c.args.list.now.items front (c.in-Ok.raw ∷ []);
      same_records = on.same_records;
      same_left = on.same_left;
      fewer = omega arith;
      all_placed = placed_more front c.in-Ok.raw c.loop-rest.invariant.all_placed c.in-Ok.ensures.placed;
    })

pub returns-in-Err-clause-records : goal.returns-in-Err-clause-records
returns-in-Err-clause-records c = whole c.args.list.now.items c.loop-rest.list.items c.loop-rest.invariant.front (records c.args.body.now) c.loop-rest.invariant.behind
    (stops_refused c.read_as_spelled.ensures c.args.body.now c.loop-rest.rest.now c.loop-rest.invariant.front c.args.offset c.in-Err.fault c.loop-rest.invariant.same_records c.loop-rest.invariant.same_left
    (some_left (length c.loop-rest.rest.now) c.loop-rest-test.ensures) (sym c.in-Err.ensures.reading)).0

pub returns-in-Err-clause-refused : goal.returns-in-Err-clause-refused
returns-in-Err-clause-refused c =
    (stops_refused c.read_as_spelled.ensures c.args.body.now c.loop-rest.rest.now c.loop-rest.invariant.front c.args.offset c.in-Err.fault c.loop-rest.invariant.same_records c.loop-rest.invariant.same_left
    (some_left (length c.loop-rest.rest.now) c.loop-rest-test.ensures) (sym c.in-Err.ensures.reading)).1

pub returns-in-Err-clause-placed : goal.returns-in-Err-clause-placed
returns-in-Err-clause-placed c = behind c.args.list.now.items c.loop-rest.list.items c.loop-rest.invariant.front c.loop-rest.invariant.behind c.loop-rest.invariant.all_placed

pub returns-clause-records : goal.returns-clause-records
returns-clause-records c = whole c.args.list.now.items c.loop-rest.list.items c.loop-rest.invariant.front (records c.args.body.now) c.loop-rest.invariant.behind
    (stops_whole c.args.body.now c.loop-rest.rest.now c.loop-rest.invariant.front c.args.offset c.loop-rest.invariant.same_records c.loop-rest.invariant.same_left
    (nothing_left (length c.loop-rest.rest.now) c.loop-rest-test.ensures)).0

pub returns-clause-refused : goal.returns-clause-refused
returns-clause-refused c =
    (stops_whole c.args.body.now c.loop-rest.rest.now c.loop-rest.invariant.front c.args.offset c.loop-rest.invariant.same_records c.loop-rest.invariant.same_left
    (nothing_left (length c.loop-rest.rest.now) c.loop-rest-test.ensures)).1

pub returns-clause-placed : goal.returns-clause-placed
returns-clause-placed c = behind c.args.list.now.items c.loop-rest.list.items c.loop-rest.invariant.front c.loop-rest.invariant.behind c.loop-rest.invariant.all_placed

pub returns-in_err-push-in-Ok-clause-err : goal.returns-in_err-push-in-Ok-clause-err
returns-in_err-push-in-Ok-clause-err c =
    let some : AddsSome c.args.list.now.items c.push.new.self.items (records c.args.body.now) = record {
      front = c.loop-rest.invariant.front;
      rest = records c.loop-rest.rest.now;
      whole = sym c.loop-rest.invariant.same_records;
      added = c.in_err-push-in-Ok.ensures.items ∙ c.loop-rest.invariant.behind;
      not_all = read_some c.read_as_spelled.ensures c.loop-rest.rest.now c.in-Ok.raw c.in-Ok.size (sym c.in-Ok.ensures.reading);
    } in
    on_err _ some
