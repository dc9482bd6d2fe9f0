use Rattle.std.proofs.Common.{◌≡◌, ◌≤◌, ◌++◌, List, length}
use Rattle.std.specs.List.{All}
use Rattle.cat062_read.specs.declared.record.Raw062.{Raw062}
use Rattle.cat062_read.specs.Records.{records, left_of}
use Rattle.cat062_read.specs.Tracks.{IsPlaced}
use Rattle.cat062_read.proofs.body.add_records.Given as goal

abbrev pub invariant-loop-rest : goal.invariant-loop-rest
invariant-loop-rest l = record {
  front : List Raw062;
  behind : l.list.items ≡ l.initial.list.items ++ front;
  same_records : front ++ records l.rest ≡ records l.body;
  same_left : left_of l.rest ≡ left_of l.body;
  fewer : length l.rest ≤ length l.body;
  all_placed : All IsPlaced front;
}

abbrev pub decreases-loop-rest : goal.decreases-loop-rest
decreases-loop-rest l = length l.rest
