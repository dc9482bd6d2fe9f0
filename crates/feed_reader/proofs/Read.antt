-- What was read of a source is its bytes to the end, or as many as are read of it.
use Rattle.std.proofs.Common.{◌≡◌, ℕ, ◌+◌, ◌-◌, ◌≤◌, Bool, true, false, cond, not, List, [], ◌∷◌, ◌++◌, length, take, drop, zero-add, Option, Some, None, refl, ap, ◌∙◌, sym, arith, suc, zero, if◌then◌else◌}
use Rattle.std.specs.List.{count_by, flat_map}
use Rattle.std.proofs.lemmas.Grind.{flat_map-append}
use Rattle.std.proofs.Math.Seq.{take-append-add}
use Rattle.std.proofs.lemmas.List.{take_all, append-nil, append_assoc, take-append-le}
use Rattle.std.proofs.lemmas.List.Sums.{count_by-le-length, sum_by-append}
use Rattle.std.specs.Io.KnownBytes.{Consumes, IsAtEnd}
use Rattle.asterix_blocks.specs.Cutting.{Cuts, coming}
use Rattle.asterix_blocks.specs.Framing.{Framing, framing, framing_within, first_block, declared_length, begins_whole, end_at, behind, blocks, end}
use Rattle.asterix_blocks.specs.Held.{Held}
use Rattle.asterix_blocks.specs.declared.blocks.Block.{Block}
use Rattle.asterix_blocks.specs.declared.blocks.End.TheVariants.{BadLength}
use Rattle.asterix_blocks.specs.declared.TheConstants.{FEED_ROOM}
use Rattle.asterix_blocks.specs.declared.blocks.End.{End}
use Rattle.cat062_read.specs.declared.record.Raw062.{Raw062}
use Rattle.cat062_read.specs.Tracks.{is_usable}
use Rattle.feed_reader.specs.declared.input.Gathered.{Gathered}
use Rattle.feed_reader.specs.declared.input.TheConstants.{MOST_USABLE}
use Rattle.feed_reader.specs.Feeds.{ReadsWhole, Gathers, content_as, told_blocks, told_count, with_one, with_usable}
use Rattle.feed_reader.specs.Content.{Content, content, content_by, is_of_category, records_of}

whole : (told bytes left : List ℕ) (room : ℕ) → told ≡ bytes ++ left → left ≡ [] → length bytes ≤ room → bytes ≡ take room told
whole told bytes left room taken ended within =
    sym (take_all room bytes within) ∙ ap (take room) (sym (append-nil bytes) ∙ ap (λ l. bytes ++ l) (sym ended) ∙ sym taken)

-- the content of the octets read is that of the source, where no more of them is read
pub read_to_end : (old new : Option (List ℕ)) (bytes : List ℕ) (input : Content) → Consumes old new bytes → IsAtEnd new → length bytes ≤ FEED_ROOM → input ≡ content bytes → ReadsWhole old input
read_to_end None new bytes input taken at_end within told = tt
read_to_end (Some octets) None bytes input taken at_end within told = absurd taken
read_to_end (Some octets) (Some left) bytes input taken at_end within told = rw (sym (whole octets bytes left FEED_ROOM taken at_end within)) told

front : (told bytes left : List ℕ) (room : ℕ) → told ≡ bytes ++ left → length bytes ≡ room → bytes ≡ take room told
front told bytes left room taken full =
    sym (take_all room bytes (omega arith)) ∙ sym (take-append-le room bytes left (omega arith)) ∙ ap (take room) (sym taken)

pub read_to_room : (old new : Option (List ℕ)) (bytes : List ℕ) (input : Content) → Consumes old new bytes → length bytes ≡ FEED_ROOM → input ≡ content bytes → ReadsWhole old input
read_to_room None new bytes input taken full told = tt
read_to_room (Some octets) None bytes input taken full told = absurd taken
read_to_room (Some octets) (Some left) bytes input taken full told = rw (sym (front octets bytes left FEED_ROOM taken full)) told

-- and so it is where it is that of the octets read with whatever follows them
rest_taken : (told bytes left : List ℕ) (room : ℕ) → told ≡ bytes ++ left → length bytes ≤ room → bytes ++ take (room - length bytes) left ≡ take room told
rest_taken told bytes left room taken within =
    sym (take-append-add bytes left (room - length bytes)) ∙ ap (λ n. take n (bytes ++ left)) (omega arith) ∙ ap (take room) (sym taken)

pub read_whatever : (old new : Option (List ℕ)) (bytes : List ℕ) (input : Content) → Consumes old new bytes → length bytes ≤ FEED_ROOM → ((more : List ℕ) → input ≡ content (bytes ++ more)) → ReadsWhole old input
read_whatever None new bytes input taken within told = tt
read_whatever (Some octets) None bytes input taken within told = absurd taken
read_whatever (Some octets) (Some left) bytes input taken within told = rw (sym (rest_taken octets bytes left FEED_ROOM taken within)) (told (take (FEED_ROOM - length bytes) left))

-- what gave nothing and is at its end was at its end
pub at_end_before : (old new : Option (List ℕ)) → Consumes old new [] → IsAtEnd new → IsAtEnd old
at_end_before None new taken at_end = tt
at_end_before (Some told) None taken at_end = absurd taken
at_end_before (Some told) (Some left) taken at_end = taken ∙ at_end

pub consumes_nothing : (o : Option (List ℕ)) → Consumes o o []
consumes_nothing None = tt
consumes_nothing (Some octets) = refl

pub consumes_more : (old now new : Option (List ℕ)) (front next : List ℕ) → Consumes old now front → Consumes now new next → Consumes old new (front ++ next)
consumes_more None now new front next one two = tt
consumes_more (Some octets) None new front next one two = absurd one
consumes_more (Some octets) (Some left) None front next one two = absurd two
consumes_more (Some octets) (Some left) (Some rest) front next one two = one ∙ ap (λ l. front ++ l) two ∙ sym (append_assoc front next rest)

-- ---- counts

count_more : (test : Block → Bool) (given : List Block) (block : Block) → count_by test (given ++ block ∷ []) ≡ count_by test given + cond (test block) 1 0
count_more test given block = sum_by-append (λ (b : Block). cond (test b) 1 0) given (block ∷ []) ∙ ap (λ n. count_by test given + n) (zero-add (cond (test block) 1 0))

told_after : (count : ℕ) (one : Bool) → with_one (told_count count) one ≡ told_count (count + cond one 1 0)
told_after count true = omega arith
told_after count false = omega arith

-- one more block, counted by a test
pub told_more : (test : Block → Bool) (given : List Block) (block : Block) → with_one (told_blocks test given) (test block) ≡ told_blocks test (given ++ block ∷ [])
told_more test given block = told_after (count_by test given) (test block) ∙ ap told_count (sym (count_more test given block))

-- what each block has, with one block more
pub more : {X : Type 0} (f : Block → List X) (given : List Block) (block : Block) → flat_map f (given ++ block ∷ []) ≡ flat_map f given ++ f block
more {X} f given block = flat_map-append f given (block ∷ []) ∙ ap (λ (xs : List X). flat_map f given ++ xs) (append-nil (f block))

usable_more : (given : List Block) (block : Block) → count_by is_usable (flat_map records_of (given ++ block ∷ [])) ≡ count_by is_usable (flat_map records_of given) + count_by is_usable (records_of block)
usable_more given block = ap (count_by is_usable) (more records_of given block) ∙ sum_by-append (λ (r : Raw062). cond (is_usable r) 1 0) (flat_map records_of given) (records_of block)

told_sum : (m n : ℕ) → told_count (told_count m + n) ≡ told_count (m + n)
told_sum m n = omega arith

-- the usable records of one more block
pub told_usable : (given : List Block) (block : Block) → with_usable (told_count (count_by is_usable (flat_map records_of given))) block ≡ told_count (count_by is_usable (flat_map records_of (given ++ block ∷ [])))
told_usable given block =
    told_sum (count_by is_usable (flat_map records_of given)) (count_by is_usable (records_of block)) ∙ ap told_count (sym (usable_more given block))

told_few : (n : ℕ) → n ≤ MOST_USABLE → told_count n ≡ n
told_few n few = omega arith

-- a count that is no greater than a feed can tell is told
pub usable_is : (gathered : Gathered) (given : List Block) → Gathers gathered given → count_by is_usable gathered.records.items ≤ MOST_USABLE → gathered.usable ≡ count_by is_usable gathered.records.items
usable_is gathered given gathers few =
    gathers.usable ∙ ap (λ (raws : List Raw062). told_count (count_by is_usable raws)) (sym gathers.records) ∙ told_few (count_by is_usable gathered.records.items) few

-- there are no more blocks than octets
few_when : (whole : Bool) (block : Block) (rest : Framing) (last : End) (most : ℕ) → length rest.blocks ≤ most →
    length (if whole then behind (block ∷ []) rest else record { blocks = []; end = last }).blocks ≤ suc most
few_when true block rest last most few = omega arith
few_when false block rest last most few = omega arith

few_within : (most offset : ℕ) (octets : List ℕ) → length (framing_within most offset octets).blocks ≤ most
unfolding framing_within
few_within zero offset octets = omega arith
few_within (suc most) offset octets = few_when (begins_whole octets) (first_block offset octets) (framing_within most (offset + declared_length octets) (drop (declared_length octets) octets)) (end_at offset octets) most
    (few_within most (offset + declared_length octets) (drop (declared_length octets) octets))

few_blocks : (feed : List ℕ) → length (blocks feed) ≤ length feed
few_blocks feed = few_within (length feed) 0 feed

-- so their number is told as it is
pub told_is : (test : Block → Bool) (fed : List ℕ) → length fed ≤ FEED_ROOM → told_blocks test (blocks fed) ≡ count_by test (blocks fed)
told_is test fed within =
    let few = few_blocks fed in
    let fewer = count_by-le-length test (blocks fed) in
    omega arith

-- ---- what is gathered of the blocks of the octets fed, with how they end, is their content

pub read_of_fed : (gathered : Gathered) (ended : End) (fed : List ℕ) → length fed ≤ FEED_ROOM → Gathers gathered (blocks fed) → ended ≡ end fed → content_as gathered ended ≡ content fed
read_of_fed gathered ended fed within gathers ends =
    let read = gathers.blocks ∙ told_is is_of_category fed within in
    let passed = gathers.passed ∙ told_is (λ block. not (is_of_category block)) fed within in
    let records = gathers.records in
    let refused = gathers.refused in
    cc

-- behind a bad length nothing that follows is content
pub read_of_bad : (held : Held) (gathered : Gathered) (ended : End) (fed : List ℕ) → length fed ≤ FEED_ROOM → Cuts held fed (blocks fed) → Gathers gathered (blocks fed) → ended ≡ end fed →
    ((more : List ℕ) → coming held more ≡ record { blocks = []; end = BadLength held.offset }) → (more : List ℕ) → content_as gathered ended ≡ content (fed ++ more)
read_of_bad held gathered ended fed within cuts gathers ends bad more =
    let whole : framing (fed ++ more) ≡ record { blocks = blocks fed ++ []; end = BadLength held.offset } = cuts.same more ∙ ap (behind (blocks fed)) (bad more) in
    let nothing : framing (fed ++ []) ≡ record { blocks = blocks fed ++ []; end = BadLength held.offset } = cuts.same [] ∙ ap (behind (blocks fed)) (bad []) in
    let same : framing (fed ++ more) ≡ framing fed = whole ∙ sym nothing ∙ ap framing (append-nil fed) in
    read_of_fed gathered ended fed within gathers ends ∙ sym (ap content_by same)
