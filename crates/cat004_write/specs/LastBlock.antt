-- Octets that are whole blocks, the last of which begins at an offset and may take more (this project's profile).
use Rattle.std.specs.Prelude.{◌≡◌, ℕ, ◌+◌, ◌*◌, ◌≤◌, List, ◌++◌, length, take, drop}
use Rattle.asterix_fields.specs.declared.sizes.TheConstants.{HEADER_LENGTH}
use Rattle.cat004_write.specs.declared.message.TheConstants.{MESSAGE_ROOM}
use Rattle.cat004_write.specs.declared.packer.TheConstants.{PACKED_ROOM}
use Rattle.cat004_write.specs.Blocks.{Packing, block, last_block}

-- what stands before the last block, and what stands in it
abbrev pub packing_of : List ℕ → ℕ → Packing
packing_of octets offset = record {
  closed = take offset octets;
  contents = drop (offset + HEADER_LENGTH) octets;
}

-- from the offset on stand the last block, with its category and length, or nothing
pub record IsWhole (octets : List ℕ) (offset : ℕ) : Type 0 where
  pub begins : offset ≤ length octets
  pub room : length octets ≤ offset + PACKED_ROOM
  pub ends : drop offset octets ≡ last_block (drop (offset + HEADER_LENGTH) octets)

-- a capacity for so many more messages behind a length, whatever their lengths and however they fall into blocks
abbrev pub HasSpare : ℕ → ℕ → ℕ → Type 0
HasSpare length capacity spare = length + spare * (HEADER_LENGTH + MESSAGE_ROOM) ≤ capacity

-- the block that begins at the offset has its category and length, and room for these octets
pub record HasRoom (octets : List ℕ) (offset : ℕ) (message : List ℕ) : Type 0 where
  pub begins : offset + HEADER_LENGTH ≤ length octets
  pub block : drop offset octets ≡ block (drop (offset + HEADER_LENGTH) octets)
  pub room : length octets + length message ≤ offset + PACKED_ROOM

-- the octets with these ones in that block
abbrev pub extended : List ℕ → ℕ → List ℕ → List ℕ
extended octets offset message = take offset octets ++ block (drop (offset + HEADER_LENGTH) octets ++ message)
