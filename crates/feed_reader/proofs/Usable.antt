-- How many usable records the octets of a feed can tell.
use Rattle.std.proofs.Common.{◌≡◌, ℕ, zero, suc, ◌+◌, ◌-◌, ◌*◌, ◌≤◌, Bool, true, false, cond, List, [], ◌∷◌, length, drop, refl, arith, length-drop}
use Rattle.std.specs.Prelude.{count_by, nat_le}
use Rattle.std.specs.List.{flat_map}
use Rattle.std.proofs.lemmas.Bool.{and_parts, leb-true}
use Rattle.std.proofs.lemmas.List.{length-take}
use Rattle.std.proofs.lemmas.List.Sums.{sum_by-append}
use Rattle.asterix_fields.specs.declared.sizes.TheConstants.{HEADER_LENGTH}
use Rattle.asterix_blocks.specs.declared.TheConstants.{FEED_ROOM}
use Rattle.asterix_blocks.specs.declared.blocks.Block.{Block}
use Rattle.asterix_blocks.specs.Framing.{Framing, behind, begins_whole, blocks, declared_length, end_at, first_block, framing_within}
use Rattle.cat062_read.specs.declared.record.Raw062.{Raw062}
use Rattle.cat062_read.specs.Records.{records}
use Rattle.cat062_read.specs.Tracks.{is_usable}
use Rattle.feed_reader.specs.declared.input.TheConstants.{MOST_USABLE}
use Rattle.feed_reader.specs.Content.{is_of_category, records_of}

abbrev pub usable_of : List Block → ℕ
usable_of given = count_by is_usable (flat_map records_of given)

usable_front : (block : Block) (others : List Block) → usable_of (block ∷ others) ≡ count_by is_usable (records_of block) + usable_of others
usable_front block others = sum_by-append (λ (x : Raw062). cond (is_usable x) 1 0) (records_of block) (flat_map records_of others)

few_chosen : (chosen : Bool) (raws : List Raw062) (long : ℕ) → count_by is_usable raws * 2 ≤ long → count_by is_usable (cond chosen raws []) * 2 ≤ long
few_chosen true raws long few = few
few_chosen false raws long few = omega arith

front_body : (offset : ℕ) (octets : List ℕ) → begins_whole octets ≡ true → (length (first_block offset octets).body ≤ declared_length octets) × (declared_length octets ≤ length octets)
front_body offset octets whole =
    let bounds = and_parts (nat_le HEADER_LENGTH (declared_length octets)) (nat_le (declared_length octets) (length octets)) whole in
    let inside : declared_length octets ≤ length octets = leb-true (declared_length octets) (length octets) bounds.1 in
    (omega (arith, length-take (declared_length octets - HEADER_LENGTH) (drop HEADER_LENGTH octets)), inside)

module _ (law : (body : List ℕ) → count_by is_usable (records body) * 2 ≤ length body) where
  few_step : (most offset : ℕ) (octets : List ℕ) (whole : Bool) → begins_whole octets ≡ whole → ((offset : ℕ) (rest : List ℕ) → usable_of (framing_within most offset rest).blocks * 2 ≤ length rest)
      → usable_of (let framed : Framing = cond whole (behind (first_block offset octets ∷ []) (framing_within most (offset + declared_length octets) (drop (declared_length octets) octets))) (record { blocks = []; end = end_at offset octets }) in framed.blocks) * 2 ≤ length octets
  few_step most offset octets false is others = omega arith
  few_step most offset octets true is others =
      let block : Block = first_block offset octets in
      let rest : List ℕ = drop (declared_length octets) octets in
      let later : List Block = (framing_within most (offset + declared_length octets) rest).blocks in
      let few : count_by is_usable (records_of block) * 2 ≤ length block.body = few_chosen (is_of_category block) (records block.body) (length block.body) (law block.body) in
      let few_later : usable_of later * 2 ≤ length rest = others (offset + declared_length octets) rest in
      let body = front_body offset octets is in
      let left : length rest ≡ length octets - declared_length octets = length-drop (declared_length octets) octets in
      let weighed : (count_by is_usable (records_of block) + usable_of later) * 2 ≤ length octets = omega arith in
      rw (usable_front block later) weighed

  few_within : (most offset : ℕ) (octets : List ℕ) → usable_of (framing_within most offset octets).blocks * 2 ≤ length octets
  unfolding framing_within
  few_within zero offset octets = omega arith
  few_within (suc most) offset octets = few_step most offset octets (begins_whole octets) refl (few_within most)

  pub few_of_fed : (fed : List ℕ) (raws : List Raw062) → length fed ≤ FEED_ROOM → raws ≡ flat_map records_of (blocks fed) → count_by is_usable raws ≤ MOST_USABLE
  few_of_fed fed raws within told =
      let few : usable_of (blocks fed) * 2 ≤ length fed = few_within (length fed) 0 fed in
      let half : MOST_USABLE * 2 ≡ FEED_ROOM = refl in
      rw told (omega arith)
