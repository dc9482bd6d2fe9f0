-- Laws of block framing: what the front of a feed decides, whatever follows it.
use Rattle.std.proofs.Common.{◌≡◌, ◌≢◌, ℕ, zero, suc, ◌+◌, ◌-◌, ◌≤◌, ◌<◌, Bool, true, false, cond, nat_lt, List, [], ◌∷◌, ◌++◌, length, take, drop, refl, sym, ◌∙◌, ap, subst, append_assoc, append-nil, arith, length-append, length-drop}
use Rattle.std.proofs.lemmas.Bool.{and_parts, and_from, leb-true, le-leb, ltb-true, lt-leb, and_left}
use Rattle.std.specs.declared.option.Option.{Option}
use Rattle.std.specs.declared.option.Option.TheVariants.{Some, None}
use Rattle.asterix_blocks.specs.declared.blocks.End.{End}
use Rattle.asterix_blocks.specs.declared.blocks.End.TheVariants.{Clean, Truncated, BadLength}
use Rattle.std.proofs.lemmas.List.{drop-append-le, drop-drop, length-take, take-append-le, take_rest}
use Rattle.asterix_blocks.specs.declared.blocks.Block.{Block}
use Rattle.asterix_fields.specs.declared.sizes.TheConstants.{HEADER_LENGTH}
use Rattle.asterix_blocks.specs.Framing.{begins_whole, declared_length, first_block, end_at, Framing, behind, framing_within, framing_from, framing}
use Rattle.asterix_blocks.specs.Held.{Held}
use Rattle.asterix_blocks.specs.Cutting.{coming, held_blocks, Cuts, Gives}

-- the bounds of a whole block
pub whole_bounds : (octets : List ℕ) → begins_whole octets ≡ true → (HEADER_LENGTH ≤ declared_length octets) × (declared_length octets ≤ length octets)
whole_bounds octets h =
    let parts = and_parts _ _ h in
    (leb-true _ _ parts.0, leb-true _ _ parts.1)

-- within those bounds a whole block stands at the front
pub whole_within : (octets : List ℕ) → HEADER_LENGTH ≤ declared_length octets → declared_length octets ≤ length octets → begins_whole octets ≡ true
whole_within octets low high = and_from _ _ (le-leb _ _ low) (le-leb _ _ high)

-- few octets hold no block
nothing_whole : (octets : List ℕ) → length octets ≤ 0 → begins_whole octets ≡ false
nothing_whole [] h = refl
nothing_whole (x ∷ xs) h = absurd (omega arith)

same_choice : {X : Type 0} (b : Bool) (x y z : X) → (b ≡ true → x ≡ y) → cond b x z ≡ cond b y z
same_choice true x y z h = h refl
same_choice false x y z h = refl

-- no block, and how the feed ends
abbrev pub ended : ℕ → List ℕ → Framing
ended offset octets = record { blocks = []; end = end_at offset octets }

-- the first block, and at most so many behind it
abbrev stepped : ℕ → ℕ → List ℕ → Framing
stepped most offset octets =
    behind (first_block offset octets ∷ []) (framing_within most (offset + declared_length octets) (drop (declared_length octets) octets))

unrolled : (most offset : ℕ) (octets : List ℕ) → framing_within (suc most) offset octets ≡ cond (begins_whole octets) (stepped most offset octets) (ended offset octets)
unfolding framing_within
unrolled most offset octets = refl

none_left : (offset : ℕ) (octets : List ℕ) → framing_within zero offset octets ≡ ended offset octets
unfolding framing_within
none_left offset octets = refl

-- where no whole block stands at the front there is none
pub framing_within-ended : (most offset : ℕ) (octets : List ℕ) → begins_whole octets ≡ false → framing_within most offset octets ≡ ended offset octets
framing_within-ended zero offset octets h = none_left offset octets
framing_within-ended (suc most) offset octets h = unrolled most offset octets ∙ rw h refl

-- it is all the same how many blocks are allowed, if they are as many as octets
framing_within-enough : (m n offset : ℕ) (octets : List ℕ) → length octets ≤ m → length octets ≤ n → framing_within m offset octets ≡ framing_within n offset octets
framing_within-enough zero n offset octets p q =
    framing_within-ended zero offset octets (nothing_whole octets p) ∙ sym (framing_within-ended n offset octets (nothing_whole octets p))
framing_within-enough (suc m) zero offset octets p q =
    framing_within-ended (suc m) offset octets (nothing_whole octets q) ∙ sym (framing_within-ended zero offset octets (nothing_whole octets q))
framing_within-enough (suc m) (suc n) offset octets p q =
    let rest : List ℕ = drop (declared_length octets) octets in
    unrolled m offset octets
    ∙ same_choice (begins_whole octets) (stepped m offset octets) (stepped n offset octets) (ended offset octets)
    (λ h. ap (λ z. behind (first_block offset octets ∷ []) z)
    (framing_within-enough m n (offset + declared_length octets) rest
    (let bounds = whole_bounds octets h in omega (arith, length-drop (declared_length octets) octets))
    (let bounds = whole_bounds octets h in omega (arith, length-drop (declared_length octets) octets))))
    ∙ sym (unrolled n offset octets)

-- a whole block at the front is the first, and the others stand behind it
step_within : (most offset : ℕ) (octets : List ℕ) → length octets ≤ most → begins_whole octets ≡ true → framing_within most offset octets ≡ behind (first_block offset octets ∷ []) (framing_from (offset + declared_length octets) (drop (declared_length octets) octets))
step_within zero offset octets p h = absurd (omega (arith, whole_bounds octets h))
step_within (suc most) offset octets p h =
    let rest : List ℕ = drop (declared_length octets) octets in
    let bounds = whole_bounds octets h in
    let shorter : length rest ≤ most = omega (arith, length-drop (declared_length octets) octets) in
    let fits : length rest ≤ length rest = omega arith in
    unrolled most offset octets ∙ rw h (ap (λ z. behind (first_block offset octets ∷ []) z) (framing_within-enough most (length rest) (offset + declared_length octets) rest shorter fits))

pub framing_from-step : (offset : ℕ) (octets : List ℕ) → begins_whole octets ≡ true → framing_from offset octets ≡ behind (first_block offset octets ∷ []) (framing_from (offset + declared_length octets) (drop (declared_length octets) octets))
framing_from-step offset octets h = step_within (length octets) offset octets (omega arith) h

pub framing_from-ended : (offset : ℕ) (octets : List ℕ) → begins_whole octets ≡ false → framing_from offset octets ≡ ended offset octets
framing_from-ended offset octets h = framing_within-ended (length octets) offset octets h

-- what follows a header doesn't change it
pub declared_length-append : (octets more : List ℕ) → 3 ≤ length octets → declared_length (octets ++ more) ≡ declared_length octets
declared_length-append [] more h = absurd (omega arith)
declared_length-append (a ∷ []) more h = absurd (omega arith)
declared_length-append (a ∷ b ∷ []) more h = absurd (omega arith)
declared_length-append (a ∷ b ∷ c ∷ rest) more h = refl

-- nor does it change a whole block
first_block-append_past : (offset : ℕ) (octets more : List ℕ) → 3 ≤ length octets → declared_length octets ≤ length octets → first_block offset (octets ++ more) ≡ first_block offset octets
first_block-append_past offset [] more h within = absurd (omega arith)
first_block-append_past offset (a ∷ []) more h within = absurd (omega arith)
first_block-append_past offset (a ∷ b ∷ []) more h within = absurd (omega arith)
first_block-append_past offset (a ∷ b ∷ c ∷ rest) more h within =
    let same = take-append-le (declared_length (a ∷ b ∷ c ∷ rest) - 3) rest more (omega arith) in
    ap (λ z. record { offset = offset; category = a; body = z }) same

-- what a whole block at the front settles, whatever follows
pub record Settled (offset : ℕ) (octets more : List ℕ) : Type 0 where
  pub whole : begins_whole (octets ++ more) ≡ true
  pub counted : declared_length (octets ++ more) ≡ declared_length octets
  pub block : first_block offset (octets ++ more) ≡ first_block offset octets
  pub rest : drop (declared_length octets) (octets ++ more) ≡ drop (declared_length octets) octets ++ more

pub whole-settled : (offset : ℕ) (octets more : List ℕ) → begins_whole octets ≡ true → Settled offset octets more
whole-settled offset octets more h =
    let bounds = whole_bounds octets h in
    let long : 3 ≤ length octets = omega arith in
    let same = declared_length-append octets more long in
    record {
      whole = whole_within (octets ++ more) (omega (arith, same)) (omega (arith, same, length-append octets more));
      counted = same;
      block = first_block-append_past offset octets more long bounds.1;
      rest = drop-append-le (declared_length octets) octets more bounds.1;
    }

-- the first block is given, and what stands behind it is held
pub coming-step : (offset : ℕ) (octets more : List ℕ) → begins_whole octets ≡ true → framing_from offset (octets ++ more) ≡ behind (first_block offset octets ∷ []) (framing_from (offset + declared_length octets) (drop (declared_length octets) octets ++ more))
coming-step offset octets more h =
    let all = whole-settled offset octets more h in
    let step = framing_from-step offset (octets ++ more) all.whole in
    let same : drop (declared_length (octets ++ more)) (octets ++ more) ≡ drop (declared_length octets) octets ++ more =
    ap (λ n. drop n (octets ++ more)) all.counted ∙ all.rest in
    step
    ∙ ap (λ b. behind (b ∷ []) (framing_from (offset + declared_length (octets ++ more)) (drop (declared_length (octets ++ more)) (octets ++ more)))) all.block
    ∙ ap (λ n. behind (first_block offset octets ∷ []) (framing_from (offset + n) (drop (declared_length (octets ++ more)) (octets ++ more)))) all.counted
    ∙ ap (λ z. behind (first_block offset octets ∷ []) (framing_from (offset + declared_length octets) z)) same

-- how long the body of a whole block is
pub length-body : (offset : ℕ) (octets : List ℕ) → begins_whole octets ≡ true → HEADER_LENGTH + length (first_block offset octets).body ≡ declared_length octets
length-body offset octets h =
    let bounds = whole_bounds octets h in
    omega (arith, length-take (declared_length octets - 3) (drop 3 octets), length-drop 3 octets)

-- a block that was found at the front
found_whole : (b : Bool) (block first : Block) → Some block ≡ cond b (Some first) None → (b ≡ true) × (block ≡ first)
found_whole true block first h = (refl, cc)
found_whole false block first h = absurd (cc)

found_none : {X : Type 0} (b : Bool) (found : Option X) (first : X) → found ≡ None → found ≡ cond b (Some first) None → b ≡ false
found_none true found first e h = absurd (cc)
found_none false found first e h = refl

Gives-whole : (offset given count : ℕ) (octets : List ℕ) (block : Block) → given ≤ length octets → Some block ≡ cond (begins_whole (drop given octets)) (Some (first_block offset (drop given octets))) None → count ≡ 3 + length block.body → Gives (record { offset = offset; octets = drop given octets }) block (record { offset = offset + count; octets = drop (given + count) octets })
Gives-whole offset given count octets block inside h e =
    let held : List ℕ = drop given octets in
    let found = found_whole (begins_whole held) block (first_block offset held) h in
    let bounds = whole_bounds held found.0 in
    let length_is : count ≡ declared_length held = e ∙ ap (λ (b : Block). 3 + length b.body) found.1 ∙ length-body offset held found.0 in
    let rest : drop (declared_length held) held ≡ drop (given + count) octets =
    ap (λ n. drop n held) (sym length_is) ∙ drop-drop count given octets in
    record {
      offset = ap (λ n. offset + n) e;
      count = omega (arith, length-drop given octets, length-drop (given + count) octets);
      same = λ more.
          coming-step offset held more found.0
          ∙ ap (λ b. behind (b ∷ []) (framing_from (offset + declared_length held) (drop (declared_length held) held ++ more))) (sym found.1)
          ∙ ap (λ n. behind (block ∷ []) (framing_from (offset + n) (drop (declared_length held) held ++ more))) (sym length_is)
          ∙ ap (λ z. behind (block ∷ []) (framing_from (offset + count) (z ++ more))) rest;
    }

-- the rest of a list from an index on, as code takes it
pub rest_from : (list same : List ℕ) (index : ℕ) → list ≡ same → take (length list - index) (drop index list) ≡ drop index same
rest_from list same index e = take_rest list index ∙ ap (λ z. drop index z) e

pub Gives-found : (old : Held) (offset given count : ℕ) (octets part : List ℕ) (found : Option Block) (block : Block) → record { offset = offset; octets = drop given octets } ≡ old → part ≡ drop given octets → given ≤ length octets → found ≡ cond (begins_whole part) (Some (first_block offset part)) None → found ≡ Some block → count ≡ 3 + length block.body → Gives old block (record { offset = offset + count; octets = drop (given + count) octets })
Gives-found old offset given count octets part found block view rest inside h some e =
    let new : Held = record { offset = offset + count; octets = drop (given + count) octets } in
    let h' : Some block ≡ cond (begins_whole (drop given octets)) (Some (first_block offset (drop given octets))) None =
    sym some ∙ h ∙ ap (λ z. cond (begins_whole z) (Some (first_block offset z)) None) rest in
    subst (λ (z : Held). Gives z block new) view (Gives-whole offset given count octets block inside h' e)

behind-behind : (front more : List Block) (rest : Framing) → behind front (behind more rest) ≡ behind (front ++ more) rest
behind-behind front more rest = ap (λ z. record { blocks = z; end = rest.end }) (sym (append_assoc front more rest.blocks))

-- a block that is given joins those given before
pub Cuts-given : (old new : Held) (block : Block) (fed : List ℕ) (given : List Block) → Gives old block new → Cuts old fed given → Cuts new fed (given ++ block ∷ [])
Cuts-given old new block fed given g h = record {
  count = g.count ∙ h.count;
  same = λ more. h.same more ∙ ap (λ z. behind given z) (g.same more) ∙ behind-behind given (block ∷ []) (coming new more);
}

-- nothing has no block
pub nothing-framed : framing [] ≡ record { blocks = []; end = Clean }
nothing-framed = none_left 0 []

-- where no whole block is held none comes
pub coming-none : (held : Held) (offset given : ℕ) (octets part : List ℕ) (found : Option Block) (first : Block) → record { offset = offset; octets = drop given octets } ≡ held → part ≡ drop given octets → found ≡ cond (begins_whole part) (Some first) None → found ≡ None → (coming held []).blocks ≡ []
coming-none held offset given octets part found first view rest h e =
    let none = found_none (begins_whole part) found first e h in
    let none' : begins_whole (drop given octets) ≡ false = ap begins_whole (sym rest) ∙ none in
    ap (λ (z : Held). (coming z []).blocks) (sym view)
    ∙ ap (λ z. (framing_from offset z).blocks) (append-nil (drop given octets))
    ∙ ap (λ (f : Framing). f.blocks) (framing_from-ended offset (drop given octets) none')

-- where a whole block is held one comes
pub coming-some : (held : Held) (offset given : ℕ) (octets part : List ℕ) → record { offset = offset; octets = drop given octets } ≡ held → part ≡ drop given octets → begins_whole part ≡ true → (coming held []).blocks ≢ []
coming-some held offset given octets part view rest whole = λ none.
    let left : List ℕ = drop given octets in
    let whole' : begins_whole left ≡ true = ap begins_whole (sym rest) ∙ whole in
    let step = coming-step offset left [] whole' in
    let some : (coming held []).blocks ≡ first_block offset left ∷ (framing_from (offset + declared_length left) (drop (declared_length left) left ++ [])).blocks =
    ap (λ (z : Held). (coming z []).blocks) (sym view) ∙ ap (λ (f : Framing). f.blocks) step in
    absurd (cc)

-- then all of the feed's blocks were given
pub Cuts-all : (held : Held) (fed : List ℕ) (given : List Block) → (coming held []).blocks ≡ [] → Cuts held fed given → given ≡ (framing fed).blocks
Cuts-all held fed given none h =
    sym (append-nil given)
    ∙ ap (λ z. given ++ z) (sym none)
    ∙ ap (λ (f : Framing). f.blocks) (sym (h.same []))
    ∙ ap (λ z. (framing z).blocks) (append-nil fed)

-- the end of the feed is the one that comes
pub Cuts-end : (held : Held) (fed : List ℕ) (given : List Block) → Cuts held fed given → (coming held []).end ≡ (framing fed).end
Cuts-end held fed given h =
    ap (λ (f : Framing). f.end) (sym (h.same [])) ∙ ap (λ z. (framing z).end) (append-nil fed)

pub coming-end : (held : Held) → (framing_from held.offset held.octets).end ≡ (coming held []).end
coming-end held = ap (λ z. (framing_from held.offset z).end) (sym (append-nil held.octets))

bad_from : (b : Bool) (offset place : ℕ) → cond b (BadLength offset) (Truncated offset) ≡ BadLength place → b ≡ true
bad_from true offset place h = refl
bad_from false offset place h = absurd (cc)

-- a bad length stays, whatever follows
pub bad_length-stays : (offset place : ℕ) (octets more : List ℕ) → end_at offset octets ≡ BadLength place → framing_from offset (octets ++ more) ≡ record { blocks = []; end = BadLength offset }
bad_length-stays offset place [] more h = absurd (cc)
bad_length-stays offset place (a ∷ []) more h = absurd (cc)
bad_length-stays offset place (a ∷ b ∷ []) more h = absurd (cc)
bad_length-stays offset place (a ∷ b ∷ c ∷ rest) more h =
    let octets : List ℕ = a ∷ b ∷ c ∷ rest in
    let bad = bad_from (nat_lt (declared_length octets) 3) offset place h in
    let short = ltb-true _ _ bad in
    let none : begins_whole (octets ++ more) ≡ false = and_left _ _ (lt-leb 3 (declared_length octets) short) in
    let ends : end_at offset (octets ++ more) ≡ BadLength offset = rw bad refl in
    framing_from-ended offset (octets ++ more) none ∙ ap (λ z. record { blocks = []; end = z }) ends

pub bad_length-coming : (held : Held) (offset place given : ℕ) (octets part more : List ℕ) (found : End) → record { offset = offset; octets = drop given octets } ≡ held → part ≡ drop given octets → found ≡ end_at offset part → found ≡ BadLength place → coming held more ≡ record { blocks = []; end = BadLength held.offset }
bad_length-coming held offset place given octets part more found view rest e h =
    let bad : end_at offset (drop given octets) ≡ BadLength place = ap (λ z. end_at offset z) (sym rest) ∙ sym e ∙ h in
    subst (λ (z : Held). coming z more ≡ record { blocks = []; end = BadLength z.offset }) view (bad_length-stays offset place (drop given octets) more bad)

found_length : (b : Bool) (count n : ℕ) → Some count ≡ cond b (Some n) None → (b ≡ true) × (count ≡ n)
found_length true count n h = (refl, cc)
found_length false count n h = absurd (cc)

-- the length of one more block in what is left of a feed
pub record OneMore (octets : List ℕ) (at count : ℕ) : Type 0 where
  pub whole : begins_whole (drop at octets) ≡ true
  pub counted : count ≡ declared_length (drop at octets)
  pub some : 0 < count
  pub within : at + count ≤ length octets

pub OneMore-found : (octets part : List ℕ) (at count : ℕ) (found : Option ℕ) → at ≤ length octets → part ≡ drop at octets → found ≡ cond (begins_whole part) (Some (declared_length part)) None → found ≡ Some count → OneMore octets at count
OneMore-found octets part at count found inside rest h some =
    let left : List ℕ = drop at octets in
    let h' : Some count ≡ cond (begins_whole left) (Some (declared_length left)) None =
    sym some ∙ h ∙ ap (λ z. cond (begins_whole z) (Some (declared_length z)) None) rest in
    let is = found_length (begins_whole left) count (declared_length left) h' in
    let bounds = whole_bounds left is.0 in
    record {
      whole = is.0;
      counted = is.1;
      some = omega (arith, is.1);
      within = omega (arith, is.1, length-drop at octets);
    }

-- the rest behind it
pub OneMore-rest : (octets : List ℕ) (at count start next : ℕ) → next ≡ start + count → OneMore octets at count → framing_from start (drop at octets) ≡ behind (first_block start (drop at octets) ∷ []) (framing_from next (drop (at + count) octets))
OneMore-rest octets at count start next e h =
    let left : List ℕ = drop at octets in
    let rest : drop (declared_length left) left ≡ drop (at + count) octets = ap (λ n. drop n left) (sym h.counted) ∙ drop-drop count at octets in
    framing_from-step start left h.whole
    ∙ ap (λ z. behind (first_block start left ∷ []) (framing_from (start + declared_length left) z)) rest
    ∙ ap (λ n. behind (first_block start left ∷ []) (framing_from n (drop (at + count) octets))) (ap (λ n. start + n) (sym h.counted) ∙ sym e)

-- what is left has no block
pub framing_from-left : {X : Type 0} (octets part : List ℕ) (at start : ℕ) (found : Option X) (first : X) → part ≡ drop at octets → found ≡ cond (begins_whole part) (Some first) None → found ≡ None → framing_from start (drop at octets) ≡ record { blocks = []; end = end_at start part }
framing_from-left octets part at start found first rest h e =
    let none : begins_whole (drop at octets) ≡ false = ap begins_whole (sym rest) ∙ found_none (begins_whole part) found first e h in
    framing_from-ended start (drop at octets) none ∙ ap (λ z. record { blocks = []; end = end_at start z }) (sym rest)

-- a whole feed, one block on
pub framing-more : (feed part : List ℕ) (at count : ℕ) (found : Option Block) (block : Block) (before now : List Block) → at ≤ length feed → part ≡ drop at feed → found ≡ cond (begins_whole part) (Some (first_block at part)) None → found ≡ Some block → count ≡ 3 + length block.body → now ≡ before ++ block ∷ [] → behind before (framing_from at (drop at feed)) ≡ framing feed → (at + count ≤ length feed) × (behind now (framing_from (at + count) (drop (at + count) feed)) ≡ framing feed)
framing-more feed part at count found block before now inside left_is h some e now_is all =
    let left : List ℕ = drop at feed in
    let h' : Some block ≡ cond (begins_whole left) (Some (first_block at left)) None =
    sym some ∙ h ∙ ap (λ z. cond (begins_whole z) (Some (first_block at z)) None) left_is in
    let is = found_whole (begins_whole left) block (first_block at left) h' in
    let bounds = whole_bounds left is.0 in
    let counted : count ≡ declared_length left = e ∙ ap (λ (b : Block). 3 + length b.body) is.1 ∙ length-body at left is.0 in
    let within : at + count ≤ length feed = omega (arith, length-drop at feed) in
    let one : OneMore feed at count = record {
      whole = is.0;
      counted = counted;
      some = omega arith;
      within = within;
    } in
    let rest : Framing = framing_from (at + count) (drop (at + count) feed) in (
      within,
      ap (λ z. behind z rest) now_is
          ∙ sym (behind-behind before (block ∷ []) rest)
          ∙ ap (λ z. behind before z) (ap (λ b. behind (b ∷ []) rest) is.1 ∙ sym (OneMore-rest feed at count at (at + count) refl one))
          ∙ all,
    )

-- a whole feed, where no block is left
pub framing-ended : (feed part : List ℕ) (at : ℕ) (found : Option Block) (first : Block) (before : List Block) → part ≡ drop at feed → found ≡ cond (begins_whole part) (Some first) None → found ≡ None → behind before (framing_from at (drop at feed)) ≡ framing feed → (before ≡ (framing feed).blocks) × (end_at at part ≡ (framing feed).end)
framing-ended feed part at found first before left_is h e all =
    let left = framing_from-left feed part at at found first left_is h e in (
      sym (append-nil before)
          ∙ ap (λ (f : Framing). before ++ f.blocks) (sym left)
          ∙ ap (λ (f : Framing). f.blocks) all,
      ap (λ (f : Framing). f.end) (sym left) ∙ ap (λ (f : Framing). f.end) all,
    )

-- a feed that has a whole block at a place has blocks
pub framing-some : (feed part : List ℕ) (at : ℕ) (before : List Block) → part ≡ drop at feed → begins_whole part ≡ true → behind before (framing_from at (drop at feed)) ≡ framing feed → (framing feed).blocks ≢ []
framing-some feed part at before left_is whole all = λ none.
    let left : List ℕ = drop at feed in
    let step = framing_from-step at left (ap begins_whole (sym left_is) ∙ whole) in
    let some = ap (λ (f : Framing). length (before ++ f.blocks)) step ∙ length-append before (first_block at left ∷ (framing_from (at + declared_length left) (drop (declared_length left) left)).blocks) in
    let same : length (before ++ (framing_from at left).blocks) ≡ 0 = ap (λ (f : Framing). length f.blocks) all ∙ ap length none in
    absurd (omega arith)

pub framing-some_found : (feed part : List ℕ) (at : ℕ) (found : Option Block) (block : Block) (before : List Block) → part ≡ drop at feed → found ≡ cond (begins_whole part) (Some (first_block at part)) None → found ≡ Some block → behind before (framing_from at (drop at feed)) ≡ framing feed → (framing feed).blocks ≢ []
framing-some_found feed part at found block before left_is h some all =
    framing-some feed part at before left_is (found_whole (begins_whole part) block (first_block at part) (sym some ∙ h)).0 all

-- where a block is given one was held
pub Gives-some : (old new : Held) (block : Block) → Gives old block new → held_blocks old ≢ []
Gives-some old new block g = λ none. let some = ap (λ (f : Framing). f.blocks) (g.same []) in absurd (cc)

-- nothing held has no block
pub nothing-held : (held : Held) → length held.octets ≡ 0 → held_blocks held ≡ []
nothing-held held h = ap (λ (f : Framing). f.blocks) (framing_from-ended held.offset (held.octets ++ []) (nothing_whole (held.octets ++ []) (omega (arith, length-append held.octets []))))
