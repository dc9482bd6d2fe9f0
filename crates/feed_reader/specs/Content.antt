-- The content of a feed: the records of its blocks of category 062, what is refused of them, and how it ends (this project's profile).
use Rattle.std.specs.Prelude.{ℕ, ◌+◌, ◌==◌, Bool, true, false, not, List, [], ◌∷◌, count_by, map, take, if◌then◌else◌}
use Rattle.std.specs.List.{flat_map, cons_option, list_all}
use Rattle.asterix_blocks.specs.declared.TheConstants.{FEED_ROOM}
use Rattle.asterix_blocks.specs.declared.blocks.Block.{Block}
use Rattle.asterix_blocks.specs.declared.blocks.End.{End}
use Rattle.asterix_blocks.specs.declared.blocks.End.TheVariants.{Clean, Truncated, BadLength}
use Rattle.asterix_blocks.specs.Framing.{Framing, framing}
use Rattle.cat062_read.specs.Records.{records, refusal, refused_from}
use Rattle.cat062_read.specs.declared.record.Raw062.{Raw062}
use Rattle.cat062_read.specs.declared.table.TheConstants.{CATEGORY}
use Rattle.asterix_fields.specs.declared.sizes.TheConstants.{HEADER_LENGTH}
use Rattle.cat062_read.specs.declared.body.Refused.{Refused}

-- the bytes that are read of a feed
abbrev pub feed_of : List ℕ → List ℕ
feed_of bytes = take FEED_ROOM bytes

-- the block is of category 062
abbrev pub is_of_category : Block → Bool
is_of_category block = block.category == CATEGORY

-- the records of a block: those of its body, or none where it is of another category
abbrev pub records_of : Block → List Raw062
records_of block = if is_of_category block then records block.body else []

-- what is refused of a block, with its place in the feed: nothing where it is of another category
abbrev pub refusals_of : Block → List Refused
refusals_of block =
    if is_of_category block
    then cons_option (refused_from (block.offset + HEADER_LENGTH) (refusal block.body)) []
    else []

-- how many blocks of category 062 and how many of others a feed has, its records in order, what is refused of it in
-- order, and its end
pub record Content : Type 0 where
  pub blocks : ℕ
  pub passed : ℕ
  pub records : List Raw062
  pub refused : List Refused
  pub end : End

abbrev pub content_by : Framing → Content
content_by framing = record {
  blocks = count_by is_of_category framing.blocks;
  passed = count_by (λ block. not (is_of_category block)) framing.blocks;
  records = flat_map records_of framing.blocks;
  refused = flat_map refusals_of framing.blocks;
  end = framing.end;
}

abbrev pub content : List ℕ → Content
content feed = content_by (framing feed)

-- the end is behind a whole block
abbrev pub is_clean : End → Bool
is_clean Clean = true
is_clean (Truncated offset) = false
is_clean (BadLength offset) = false

-- nothing is refused, and the end is clean
abbrev pub is_intact : List Refused → End → Bool
is_intact [] end = is_clean end
is_intact (refused ∷ others) end = false

abbrev pub are_intact : List Content → Bool
are_intact feeds = list_all (λ feed. is_intact feed.refused feed.end) feeds

abbrev pub feeds_are_intact : List (List ℕ) → Bool
feeds_are_intact feeds = are_intact (map content feeds)
