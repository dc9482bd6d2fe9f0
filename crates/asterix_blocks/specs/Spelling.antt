-- The octets of data blocks that stand one behind the other (ASTERIX part 1, the data block).
use Rattle.std.specs.Prelude.{◌≡◌, ℕ, ◌+◌, ◌-◌, ◌≤◌, false, List, [], ◌∷◌, ◌++◌, length}
use Rattle.std.specs.List.{flat_map}
use Rattle.asterix_fields.specs.Numbers.{octets}
use Rattle.asterix_fields.specs.declared.sizes.TheConstants.{BLOCK_ROOM}
use Rattle.asterix_blocks.specs.declared.blocks.Block.{Block}
use Rattle.asterix_blocks.specs.Framing.{begins_whole, block_length, blocks, end, end_at}

-- a block's octets: its category, its length, the highest octet first, and its body
abbrev pub spelled : Block → List ℕ
spelled block = block.category ∷ octets 2 (block_length block) ++ block.body

-- these blocks stand one behind the other from an offset on, and the length of each fits its two octets
abbrev pub StandFrom : ℕ → List Block → Type 0
StandFrom offset [] = Unit {0}
StandFrom offset (block ∷ others) =
    (block.offset ≡ offset) × (block_length block ≤ BLOCK_ROOM) × StandFrom (offset + block_length block) others

-- a feed is these blocks from its start on, and then a rest at whose front no whole block stands
pub record Consists (feed : List ℕ) (blocks : List Block) (rest : List ℕ) : Type 0 where
  pub all : feed ≡ flat_map spelled blocks ++ rest
  pub places : StandFrom 0 blocks
  pub partial : begins_whole rest ≡ false

-- the feed's blocks are these, and its end is that of the rest
pub record IsFramed (feed : List ℕ) (written : List Block) (rest : List ℕ) : Type 0 where
  pub same_blocks : blocks feed ≡ written
  pub same_end : end feed ≡ end_at (length feed - length rest) rest
