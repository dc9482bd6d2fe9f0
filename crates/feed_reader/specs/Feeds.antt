-- What was read of a source, where its bytes are told (this project's profile).
use Rattle.std.specs.Prelude.{◌≡◌, ℕ, ◌+◌, ◌-◌, ◌^◌, ◌≤◌, Bool, not, min, List, count_by, Option, IfSome, if◌then◌else◌}
use Rattle.std.specs.List.{All, flat_map}
use Rattle.asterix_blocks.specs.declared.blocks.Block.{Block}
use Rattle.asterix_blocks.specs.declared.blocks.End.{End}
use Rattle.asterix_blocks.specs.Cutting.{Cuts}
use Rattle.asterix_blocks.specs.Framing.{blocks}
use Rattle.asterix_blocks.specs.Held.{Held}
use Rattle.cat062_read.specs.Tracks.{IsPlaced, is_usable}
use Rattle.feed_reader.specs.declared.input.Gathered.{Gathered}
use Rattle.feed_reader.specs.declared.input.TheConstants.{MOST_USABLE}
use Rattle.feed_reader.specs.Content.{Content, content, feed_of, is_of_category, records_of, refusals_of}

-- a count as 64 bits tell it
abbrev pub told_count : ℕ → ℕ
told_count count = min count (2 ^ 64 - 1)

-- a count after one more, where there is one
abbrev pub with_one : ℕ → Bool → ℕ
with_one count one = if one then told_count (count + 1) else count

-- how many of the blocks pass a test
abbrev pub told_blocks : (Block → Bool) → List Block → ℕ
told_blocks test blocks = told_count (count_by test blocks)

-- how many of the records are usable, with those of one more block
abbrev pub with_usable : ℕ → Block → ℕ
with_usable count block = told_count (count + count_by is_usable (records_of block))

-- this is the content of the blocks
pub record Gathers (gathered : Gathered) (given : List Block) : Type 0 where
  pub blocks : gathered.blocks ≡ told_blocks is_of_category given
  pub passed : gathered.passed ≡ told_blocks (λ block. not (is_of_category block)) given
  pub records : gathered.records.items ≡ flat_map records_of given
  pub usable : gathered.usable ≡ told_count (count_by is_usable (flat_map records_of given))
  pub refused : gathered.refused.items ≡ flat_map refusals_of given

-- the blocks that are whole by now were taken, and their content was added
abbrev pub AddsBlocks : Held → Held → Gathered → Gathered → Type 0
AddsBlocks old new before after =
    (fed : List ℕ) (given : List Block) → Cuts old fed given → Gathers before given → Cuts new fed (blocks fed) × Gathers after (blocks fed)

-- what was gathered is the content of a feed that ends so
abbrev pub content_as : Gathered → End → Content
content_as gathered end = record { blocks = gathered.blocks; passed = gathered.passed; records = gathered.records.items; refused = gathered.refused.items; end = end }

-- this is the content of what the source has left
abbrev pub ReadsWhole : Option (List ℕ) → Content → Type 0
ReadsWhole left input = IfSome left (λ bytes. input ≡ content (feed_of bytes))

-- what the octets of a feed can tell: each record is placed so, and no more of them are usable
pub record IsTellable (input : Content) : Type 0 where
  pub placed : All IsPlaced input.records
  pub few : count_by is_usable input.records ≤ MOST_USABLE

-- each of the feeds is such as its octets can tell
abbrev pub AreTellable : List Content → Type 0
AreTellable feeds = All IsTellable feeds
