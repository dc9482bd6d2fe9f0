-- Which messages stand in which block (ASTERIX part 1: a block is its category, its length and whole records; the room of a block is this project's profile).
use Rattle.std.specs.Prelude.{◌≡◌, ℕ, ◌+◌, ◌<◌, ◌≤◌, List, [], ◌∷◌, ◌++◌, length, take, All}
use Rattle.std.specs.List.{concat, flat_map}
use Rattle.asterix_fields.specs.declared.sizes.TheConstants.{HEADER_LENGTH}
use Rattle.cat004_write.specs.declared.packer.TheConstants.{PACKED_ROOM}
use Rattle.cat004_write.specs.Blocks.{block}

-- a message that has octets, and room in a block by itself
abbrev pub FitsBlock : List ℕ → Type 0
FitsBlock message = (0 < length message) × (HEADER_LENGTH + length message ≤ PACKED_ROOM)

-- the block of these messages
abbrev pub block_of : List (List ℕ) → List ℕ
block_of messages = block (concat messages)

-- a block of some messages that keeps to its room
abbrev pub IsInRoom : List (List ℕ) → Type 0
IsInRoom messages = (0 < length messages) × (length (block_of messages) ≤ PACKED_ROOM)

-- the block of these messages has no room for the first of the next block
abbrev pub IsFull : List (List ℕ) → List (List (List ℕ)) → Type 0
IsFull messages [] = Unit {0}
IsFull messages (next ∷ groups) = PACKED_ROOM < length (block_of (messages ++ take 1 next))

-- so it is for each block but the last
abbrev pub AreFull : List (List (List ℕ)) → Type 0
AreFull [] = Unit {0}
AreFull (messages ∷ groups) = IsFull messages groups × AreFull groups

-- the octets are the blocks of the messages in order: each message stands whole in one block, no block
-- is empty or exceeds its room, and none but the last has room for the message after it
pub record IsPacked (messages : List (List ℕ)) (octets : List ℕ) : Type 0 where
  pub groups : List (List (List ℕ))
  pub each : flat_map (λ (group : List (List ℕ)). group) groups ≡ messages
  pub blocks : octets ≡ flat_map block_of groups
  pub room : All IsInRoom groups
  pub full : AreFull groups
