-- Messages in blocks of category 004 (ASTERIX part 1; the room of a block is this project's profile).
use Rattle.std.specs.Prelude.{◌≡◌, ℕ, ◌+◌, Bool, nat_le, List, [], ◌∷◌, ◌++◌, length, if◌then◌else◌}
use Rattle.asterix_fields.specs.declared.sizes.TheConstants.{HEADER_LENGTH}
use Rattle.asterix_fields.specs.Numbers.{octets}
use Rattle.cat004_write.specs.declared.packer.TheConstants.{CATEGORY, PACKED_ROOM}

-- the category, the length, and the contents
abbrev pub block : List ℕ → List ℕ
block contents = CATEGORY ∷ octets 2 (HEADER_LENGTH + length contents) ++ contents

-- the message fits into a block behind these contents
abbrev pub fits : List ℕ → List ℕ → Bool
fits contents message = nat_le (HEADER_LENGTH + length contents + length message) PACKED_ROOM

-- the last block, if anything stands in it
abbrev pub last_block : List ℕ → List ℕ
last_block [] = []
last_block (octet ∷ contents) = block (octet ∷ contents)

-- the blocks of these contents and of the messages after them: a message opens a new block exactly
-- where the present one would exceed its room
abbrev pub pack_from : List ℕ → List (List ℕ) → List ℕ
pack_from contents [] = last_block contents
pack_from contents (message ∷ messages) =
    if fits contents message
    then pack_from (contents ++ message) messages
    else (block contents ++ pack_from message messages)

-- messages in order, in blocks; no message gives no octet
abbrev pub pack : List (List ℕ) → List ℕ
pack messages = pack_from [] messages

-- what a packer keeps: the closed blocks, and the contents of the open one
pub record Packing : Type 0 where
  pub closed : List ℕ
  pub contents : List ℕ

-- what a packer holds: its messages in blocks, and how many more it has taken the memory for
pub record Held : Type 0 where
  pub blocks : Packing
  pub spare : ℕ

-- the packer was given these messages since it was last emptied: whatever follows, its closed blocks
-- and what comes of the open one are the blocks of all
abbrev pub Packs : Packing → List (List ℕ) → Type 0
Packs p messages = (rest : List (List ℕ)) → pack (messages ++ rest) ≡ p.closed ++ pack_from p.contents rest

-- from the old to the new this message was taken behind the others
abbrev pub Takes : Packing → List ℕ → Packing → Type 0
Takes old message new = (messages : List (List ℕ)) → Packs old messages → Packs new (messages ++ message ∷ [])

-- these octets are the blocks of all messages that were taken
abbrev pub HoldsAll : Packing → List ℕ → Type 0
HoldsAll p blocks = (messages : List (List ℕ)) → Packs p messages → blocks ≡ pack messages
