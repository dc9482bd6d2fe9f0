use Rattle.std.proofs.Common.{◌≡◌, ◌+◌, ◌-◌, ◌≤◌, ◌++◌, length, drop, vec_len, vec_capacity}
use Rattle.alert_states.specs.Merge.{updates}
use Rattle.alert_states.specs.Steps.{count_begun, kept_after, told_after}
use Rattle.alert_states.proofs.merge.merge.Given as goal

-- what is put so far, and what the rest adds, make the whole
abbrev pub invariant-loop-next : goal.invariant-loop-next
invariant-loop-next l = record {
  entry_in : l.entry ≤ length l.entries;
  hit_in : l.hit ≤ length l.hits;
  begun_in : l.begun ≤ l.entry + l.hit;
  kept_room : vec_len l.kept + (length l.entries + length l.hits) ≤ vec_capacity l.kept + (l.entry + l.hit);
  events_room : vec_len l.events + (length l.entries + length l.hits) ≤ vec_capacity l.events + (l.entry + l.hit);
  kept : l.kept.items ++ kept_after l.confirm (l.firsts + l.begun) (updates (drop l.entry l.entries) (drop l.hit l.hits)) ≡ l.initial.kept.items ++ kept_after l.confirm l.firsts (updates l.entries l.hits);
  events : l.events.items ++ told_after l.confirm (l.firsts + l.begun) (updates (drop l.entry l.entries) (drop l.hit l.hits)) ≡ l.initial.events.items ++ told_after l.confirm l.firsts (updates l.entries l.hits);
  begun : l.begun + count_begun l.confirm (l.firsts + l.begun) (updates (drop l.entry l.entries) (drop l.hit l.hits)) ≡ count_begun l.confirm l.firsts (updates l.entries l.hits);
}

abbrev pub decreases-loop-next : goal.decreases-loop-next
decreases-loop-next l = (length l.entries + length l.hits) - (l.entry + l.hit)
