-- Block framing (ASTERIX part 1, the data block): how the octets of a feed fall into blocks, and how they end.
use Rattle.std.specs.Prelude.{ℕ, zero, suc, ◌+◌, Bool, ◌&&◌, nat_lt, nat_le, List, [], ◌∷◌, ◌++◌, length, drop, slice_index, slice_range, Option, Some, None, if◌then◌else◌}
use Rattle.asterix_fields.specs.Numbers.{big_endian}
use Rattle.asterix_fields.specs.declared.sizes.TheConstants.{HEADER_LENGTH}
use Rattle.asterix_blocks.specs.declared.blocks.Block.{Block}
use Rattle.asterix_blocks.specs.declared.blocks.End.{End}
use Rattle.asterix_blocks.specs.declared.blocks.End.TheVariants.{Clean, Truncated, BadLength}

-- how many octets a block has, its header counted
abbrev pub block_length : Block → ℕ
block_length block = HEADER_LENGTH + length block.body

-- LEN: what the octets 2 and 3 say, the number of a block's octets, its header counted
abbrev pub declared_length : List ℕ → ℕ
declared_length (category ∷ high ∷ low ∷ rest) = big_endian (high ∷ low ∷ [])
declared_length few = 0

-- a whole block stands at the front
abbrev pub begins_whole : List ℕ → Bool
begins_whole octets = nat_le HEADER_LENGTH (declared_length octets) && nat_le (declared_length octets) (length octets)

-- that block, where the octets begin at an offset in the feed
abbrev pub first_block : ℕ → List ℕ → Block
first_block offset octets = record {
  offset = offset;
  category = slice_index octets 0;
  body = slice_range octets HEADER_LENGTH (declared_length octets);
}

-- that block, if a whole one stands there
abbrev pub front_block : ℕ → List ℕ → Option Block
front_block offset octets = if begins_whole octets then Some (first_block offset octets) else None

-- how a feed ends where no whole block stands at an offset, at the front of these octets
abbrev pub end_at : ℕ → List ℕ → End
end_at offset [] = Clean
end_at offset (first ∷ []) = Truncated offset
end_at offset (first ∷ second ∷ []) = Truncated offset
end_at offset (category ∷ high ∷ low ∷ rest) =
    if nat_lt (declared_length (category ∷ high ∷ low ∷ rest)) HEADER_LENGTH then BadLength offset else Truncated offset

-- blocks in order, and how the feed ends behind them
pub record Framing : Type 0 where
  pub blocks : List Block
  pub end : End

-- more blocks in front
abbrev pub behind : List Block → Framing → Framing
behind front rest = record { blocks = front ++ rest.blocks; end = rest.end }

-- the octets from an offset on: while a whole block stands at the front it is cut off, at most so many
unfoldable pub framing_within : ℕ → ℕ → List ℕ → Framing
framing_within zero offset octets = record { blocks = []; end = end_at offset octets }
framing_within (suc most) offset octets =
    if begins_whole octets
    then behind (first_block offset octets ∷ []) (framing_within most (offset + declared_length octets) (drop (declared_length octets) octets))
    else record { blocks = []; end = end_at offset octets }

-- there are no more blocks than octets
abbrev pub framing_from : ℕ → List ℕ → Framing
framing_from offset octets = framing_within (length octets) offset octets

-- a whole feed
abbrev pub framing : List ℕ → Framing
framing feed = framing_from 0 feed

-- its blocks
abbrev pub blocks : List ℕ → List Block
blocks feed = (framing feed).blocks

-- its end
abbrev pub end : List ℕ → End
end feed = (framing feed).end
