-- What a cutter holds of a feed that comes in pieces, and what of it is still to come (this project's profile).
use Rattle.std.specs.Prelude.{◌≡◌, ℕ, ◌+◌, ◌≤◌, List, [], ◌∷◌, ◌++◌, length, Option, IfSome, IfNone, Result, IfOk}
use Rattle.std.specs.List.{flat_map}
use Rattle.std.specs.Borrow.{Bor}
use Rattle.std.specs.declared.alloc.AllocError.{AllocError}
use Rattle.asterix_fields.specs.declared.sizes.TheConstants.{BLOCK_ROOM}
use Rattle.asterix_blocks.specs.declared.TheConstants.{FEED_ROOM}
use Rattle.asterix_blocks.specs.declared.blocks.Block.{Block}
use Rattle.asterix_blocks.specs.declared.blocks.End.TheVariants.{BadLength}
use Rattle.asterix_blocks.specs.Held.{Held}
use Rattle.asterix_blocks.specs.Framing.{Framing, framing, framing_from, behind, blocks, block_length}

-- the octets of pieces, one after the other
abbrev pub octets_of : List (Bor (List ℕ)) → List ℕ
octets_of pieces = flat_map (λ piece. piece.now) pieces

-- what is held once this piece is fed
abbrev pub held_with : Held → List ℕ → Held
held_with held piece = record { offset = held.offset; octets = held.octets ++ piece }

-- the blocks still to come and the end, where these octets follow what is held
abbrev pub coming : Held → List ℕ → Framing
coming held more = framing_from held.offset (held.octets ++ more)

-- the whole blocks of what is held
abbrev pub held_blocks : Held → List Block
held_blocks held = (coming held []).blocks

-- of these octets fed these blocks were given: whatever follows, the blocks of the feed are those given and
-- those still to come
pub record Cuts (held : Held) (fed : List ℕ) (given : List Block) : Type 0 where
  pub count : held.offset + length held.octets ≡ length fed
  pub same : (more : List ℕ) → framing (fed ++ more) ≡ behind given (coming held more)

-- from the old to the new this piece was fed, and no block given
abbrev pub Feeds : Held → List ℕ → Held → Type 0
Feeds old piece new = (fed : List ℕ) (given : List Block) → Cuts old fed given → Cuts new (fed ++ piece) given

-- from the old to the new this block was given: whatever follows, it is the next one, and all others are
-- still to come
pub record Gives (old : Held) (block : Block) (new : Held) : Type 0 where
  pub offset : new.offset ≡ old.offset + block_length block
  pub count : new.offset + length new.octets ≡ old.offset + length old.octets
  pub same : (more : List ℕ) → coming old more ≡ behind (block ∷ []) (coming new more)

-- it was given behind those given before
abbrev pub GivesBehind : Held → Block → Held → Type 0
GivesBehind old block new = (fed : List ℕ) (given : List Block) → Cuts old fed given → Cuts new fed (given ++ block ∷ [])

-- all blocks of what was fed were given
abbrev pub HasGivenAll : Held → Type 0
HasGivenAll held = (fed : List ℕ) (given : List Block) → Cuts held fed given → given ≡ blocks fed

-- from the old to the new all blocks that were whole were given behind these
pub record GivesAll (old : Held) (before : List Block) (new : Held) (given : List Block) : Type 0 where
  pub cuts : (fed : List ℕ) → Cuts old fed before → Cuts new fed given
  pub all : (fed : List ℕ) → Cuts old fed before → given ≡ blocks fed

-- whatever follows, no block comes, and the feed ends at a bad length
abbrev pub EndsBadly : Held → Type 0
EndsBadly held = (more : List ℕ) → coming held more ≡ record { blocks = []; end = BadLength held.offset }

-- what holds of the block that was given, or where none was
abbrev pub IfGiven : Result (Option Block) AllocError → (Block → Type 0) → Type 0
IfGiven result P = IfOk result (λ found. IfSome found P)

abbrev pub IfNoneGiven : Result (Option Block) AllocError → Type 0 → Type 0
IfNoneGiven result P = IfOk result (λ found. IfNone found P)

-- where a block stands: inside the feed, with no more octets than its length can say
pub record StandsAt (offset : ℕ) (block : Block) : Type 0 where
  pub place : block.offset ≡ offset
  pub inside : block.offset + block_length block ≤ FEED_ROOM
  pub bound : block_length block ≤ BLOCK_ROOM
