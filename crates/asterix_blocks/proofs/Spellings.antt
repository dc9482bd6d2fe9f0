-- Blocks that are written are read.
use Rattle.std.proofs.Common.{◌≡◌, inl, inr, zero, suc, ℕ, ◌+◌, ◌-◌, ◌*◌, ◌/◌, ◌%◌, ◌≤◌, true, false, List, [], ◌∷◌, ◌++◌, length, take, drop, refl, sym, ◌∙◌, ap, subst, length-drop, append_assoc, arith, length-append}
use Rattle.std.specs.List.{flat_map}
use Rattle.std.proofs.lemmas.List.{drop_at, take_at}
use Rattle.std.proofs.lemmas.List.{drop-drop, take-append-drop}
use Rattle.std.proofs.lemmas.Bool.{cases_Bool}
use Rattle.asterix_fields.specs.Numbers.{octets, big_endian, AreOctets}
use Rattle.asterix_blocks.specs.declared.blocks.Block.{Block}
use Rattle.asterix_blocks.specs.Framing.{Framing, begins_whole, block_length, declared_length, first_block, framing, framing_from, behind}
use Rattle.asterix_fields.specs.declared.sizes.TheConstants.{BLOCK_ROOM}
use Rattle.asterix_blocks.specs.Spelling.{spelled, StandFrom, Consists}
use Rattle.asterix_blocks.proofs.Framings.{framing_from-step, framing_from-ended, whole_bounds, whole_within, length-body, ended}

-- two octets hold the number that they were made of
two_octets : (n : ℕ) → n ≤ BLOCK_ROOM → big_endian (octets 2 n) ≡ n
two_octets n h = omega arith

-- what is read of a block that stands at the front
declared-spelled : (block : Block) (more : List ℕ) → block_length block ≤ BLOCK_ROOM → declared_length (spelled block ++ more) ≡ block_length block
declared-spelled block more h = two_octets (block_length block) h

first_block-spelled : (block : Block) (more : List ℕ) → block_length block ≤ BLOCK_ROOM → first_block block.offset (spelled block ++ more) ≡ block
first_block-spelled block more h =
    let counted : declared_length (spelled block ++ more) - 3 ≡ length block.body = omega (arith, declared-spelled block more h) in
    let body : take (declared_length (spelled block ++ more) - 3) (block.body ++ more) ≡ block.body =
    ap (λ n. take n (block.body ++ more)) counted ∙ take_at block.body more (length block.body) refl in
    ap (λ z. record { offset = block.offset; category = block.category; body = z }) body

length-spelled : (block : Block) → length (spelled block) ≡ block_length block
length-spelled block = omega arith

step-spelled : (offset : ℕ) (block : Block) (more : List ℕ) → block.offset ≡ offset → block_length block ≤ BLOCK_ROOM → framing_from offset (spelled block ++ more) ≡ behind (block ∷ []) (framing_from (offset + block_length block) more)
step-spelled offset block more place h =
    let octets : List ℕ = spelled block ++ more in
    let counted : declared_length octets ≡ block_length block = declared-spelled block more h in
    let long : declared_length octets ≤ length octets = omega (arith, counted, length-append (spelled block) more, length-spelled block) in
    let rest : drop (declared_length octets) octets ≡ more = ap (λ n. drop n octets) counted ∙ drop_at (spelled block) more (block_length block) (length-spelled block) in
    let first : first_block offset octets ≡ block = ap (λ n. first_block n octets) (sym place) ∙ first_block-spelled block more h in
    framing_from-step offset octets (whole_within octets (omega (arith, counted)) long)
    ∙ ap (λ b. behind (b ∷ []) (framing_from (offset + declared_length octets) (drop (declared_length octets) octets))) first
    ∙ ap (λ z. behind (block ∷ []) (framing_from (offset + declared_length octets) z)) rest
    ∙ ap (λ n. behind (block ∷ []) (framing_from (offset + n) more)) counted

-- blocks from an offset on, and a rest that has none
framing_from-spelled : (offset : ℕ) (blocks : List Block) (rest : List ℕ) → StandFrom offset blocks → begins_whole rest ≡ false → framing_from offset (flat_map spelled blocks ++ rest) ≡ behind blocks (ended (offset + length (flat_map spelled blocks)) rest)
framing_from-spelled offset [] rest places partial =
    framing_from-ended offset rest partial ∙ ap (λ n. ended n rest) (omega arith)
framing_from-spelled offset (block ∷ blocks) rest places partial =
    let others : List ℕ = flat_map spelled blocks in
    let next : ℕ = offset + block_length block in
    let place : next + length others ≡ offset + length (spelled block ++ others) =
    omega (arith, length-append (spelled block) others, length-spelled block) in
    ap (framing_from offset) (append_assoc (spelled block) others rest)
    ∙ step-spelled offset block (others ++ rest) places.0 places.1
    ∙ ap (λ z. behind (block ∷ []) z) (framing_from-spelled next blocks rest places.2 partial)
    ∙ ap (λ n. behind (block ∷ blocks) (ended n rest)) place

pub framing-spelled : (feed : List ℕ) (blocks : List Block) (rest : List ℕ) → Consists feed blocks rest → framing feed ≡ behind blocks (ended (length feed - length rest) rest)
framing-spelled feed blocks rest h =
    let octets : List ℕ = flat_map spelled blocks in
    let place : 0 + length octets ≡ length feed - length rest = omega (arith, ap length h.all, length-append octets rest) in
    ap framing h.all ∙ framing_from-spelled 0 blocks rest h.places h.partial ∙ ap (λ n. behind blocks (ended n rest)) place

-- what is left of octets are octets
AreOctets-drop : (n : ℕ) (xs : List ℕ) → AreOctets xs → AreOctets (drop n xs)
AreOctets-drop zero xs h = h
AreOctets-drop (suc n) [] h = tt
AreOctets-drop (suc n) (x ∷ xs) h = AreOctets-drop n xs h.1

-- the octets of the block at the front are those that stand there
spelled-first : (offset : ℕ) (xs : List ℕ) → begins_whole xs ≡ true → AreOctets xs → (xs ≡ spelled (first_block offset xs) ++ drop (declared_length xs) xs) × (declared_length xs ≤ BLOCK_ROOM)
spelled-first offset [] h o = absurd (omega (arith, whole_bounds [] h))
spelled-first offset (a ∷ []) h o = absurd (omega (arith, whole_bounds (a ∷ []) h))
spelled-first offset (a ∷ b ∷ []) h o = absurd (omega (arith, whole_bounds (a ∷ b ∷ []) h))
spelled-first offset (a ∷ b ∷ c ∷ rest) h o =
    let xs : List ℕ = a ∷ b ∷ c ∷ rest in
    let count : ℕ = declared_length xs in
    let low : 3 ≤ count = (whole_bounds xs h).0 in
    let is : count ≡ b * 256 + c = omega arith in
    let counted : block_length (first_block offset xs) ≡ count = length-body offset xs h in
    let high : block_length (first_block offset xs) / 256 % 256 ≡ b = omega (arith, counted, is) in
    let next : block_length (first_block offset xs) / 1 % 256 ≡ c = omega (arith, counted, is) in
    let left : drop count xs ≡ drop (count - 3) rest =
    ap (λ n. drop n xs) (let e : count ≡ 3 + (count - 3) = omega arith in e) ∙ sym (drop-drop (count - 3) 3 xs) in
    let parts : take (count - 3) rest ++ drop count xs ≡ rest = ap (λ z. take (count - 3) rest ++ z) left ∙ take-append-drop (count - 3) rest in (
      sym (ap (λ z. a ∷ z ∷ (block_length (first_block offset xs) / 1 % 256) ∷ (take (count - 3) rest ++ drop count xs)) high
          ∙ ap (λ z. a ∷ b ∷ z ∷ (take (count - 3) rest ++ drop count xs)) next
          ∙ ap (λ z. a ∷ b ∷ c ∷ z) parts),
      omega (arith, is),
    )

-- octets from an offset on are these blocks and a rest that has none
abbrev ConsistsFrom : ℕ → List ℕ → List Block → Type 0
ConsistsFrom offset xs blocks =
    (rest : List ℕ) × (xs ≡ flat_map spelled blocks ++ rest) × StandFrom offset blocks × (begins_whole rest ≡ false)

ConsistsFrom-more : (offset : ℕ) (xs : List ℕ) (blocks : List Block) → begins_whole xs ≡ true → AreOctets xs → ConsistsFrom (offset + declared_length xs) (drop (declared_length xs) xs) blocks → ConsistsFrom offset xs (first_block offset xs ∷ blocks)
ConsistsFrom-more offset xs blocks h o t =
    let first : Block = first_block offset xs in
    let is = spelled-first offset xs h o in
    let counted : block_length first ≡ declared_length xs = length-body offset xs h in
    let short : block_length first ≤ BLOCK_ROOM = omega (arith, counted, is.1) in
    (t.0, is.0 ∙ ap (λ z. spelled first ++ z) t.1 ∙ sym (append_assoc (spelled first) (flat_map spelled blocks) t.0), (refl, short, subst (λ n. StandFrom (offset + n) blocks) (sym counted) t.2), t.3)

ConsistsFrom-none : (offset : ℕ) (xs : List ℕ) → begins_whole xs ≡ false → ConsistsFrom offset xs (framing_from offset xs).blocks
ConsistsFrom-none offset xs none =
    subst (ConsistsFrom offset xs) (sym (ap (λ (f : Framing). f.blocks) (framing_from-ended offset xs none))) (xs, refl, tt, none)

ConsistsFrom-blocks : (most offset : ℕ) (xs : List ℕ) → length xs ≤ most → AreOctets xs → ConsistsFrom offset xs (framing_from offset xs).blocks
ConsistsFrom-blocks zero offset [] p o = ConsistsFrom-none offset [] refl
ConsistsFrom-blocks zero offset (x ∷ xs) p o = absurd (omega arith)
ConsistsFrom-blocks (suc most) offset xs p o =
    let count : ℕ = declared_length xs in
    elim (cases_Bool (begins_whole xs)) [
      | inl h ↦ subst (ConsistsFrom offset xs) (sym (ap (λ (f : Framing). f.blocks) (framing_from-step offset xs h)))
          (ConsistsFrom-more offset xs (framing_from (offset + count) (drop count xs)).blocks h o
          (ConsistsFrom-blocks most (offset + count) (drop count xs) (omega (arith, whole_bounds xs h, length-drop count xs)) (AreOctets-drop count xs o)))
      | inr none ↦ ConsistsFrom-none offset xs none
    ]

-- each feed is its blocks and a rest
pub Consists-blocks : (feed : List ℕ) → AreOctets feed → (rest : List ℕ) × Consists feed (framing feed).blocks rest
Consists-blocks feed o =
    let t : ConsistsFrom 0 feed (framing_from 0 feed).blocks = ConsistsFrom-blocks (length feed) 0 feed (omega arith) o in
    (t.0, record { all = t.1; places = t.2; partial = t.3 })
