-- the places so far, and those that the rows that are left give on the octets that are left, are all the places
use Rattle.std.proofs.Common.{◌≡◌, ◌≤◌, ℕ, List, length, drop}
use Rattle.asterix_fields.specs.Bits.{Tells, TellsBehind}
use Rattle.asterix_fields.proofs.Steps.{items_from}
use Rattle.asterix_fields.proofs.walking.item_spans.Given as goal

abbrev pub invariant-loop-index : goal.invariant-loop-index
invariant-loop-index g l = record {
  inside : l.end ≤ length l.bytes;
  whole : length l.spans ≡ length l.uap;
  same : (fspec : List ℕ) → Tells l.bits fspec
      → items_from l.subs fspec l.uap l.spans l.index l.end (drop l.end l.bytes) ≡ items_from l.subs fspec l.uap l.initial.spans 0 l.start (drop l.start l.bytes);
  tells : (fspec : List ℕ) → Tells l.bits fspec → TellsBehind l.index l.left fspec;
}
