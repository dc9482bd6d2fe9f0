use Rattle.std.proofs.Common.{◌≡◌, ℕ, ◌+◌, ◌≤◌, ◌<◌, List, [], ◌∷◌, ◌++◌, length, take, get_or, refl, sym, ◌∙◌, ap, arith, length-append, Bor}
use Rattle.std.specs.List.{flat_map}
use Rattle.std.proofs.lemmas.Result.{err_from_is_err_and}
use Rattle.asterix_blocks.specs.Framing.{Framing}
use Rattle.asterix_blocks.specs.Cutting.{Cuts, octets_of}
use Rattle.asterix_blocks.proofs.Framings.{nothing-framed, nothing-held}
use Rattle.asterix_blocks.proofs.Joined.{flat_map-take_more, length-flat_map-take}
use Rattle.asterix_blocks.proofs.feeds.frame_pieces.Goals as goal

-- the octets of the first pieces
abbrev joined : List (Bor (List ℕ)) → ℕ → List ℕ
joined pieces count = flat_map (λ piece. piece.now) (take count pieces)

-- an element, where there is one
abbrev piece_at : List (Bor (List ℕ)) → ℕ → List ℕ
piece_at pieces index = (get_or pieces index (record { ref_ptr = (0, 0); now = [] })).now

joined_more : (pieces : List (Bor (List ℕ))) (index : ℕ) → index < length pieces → joined pieces (index + 1) ≡ joined pieces index ++ piece_at pieces index
joined_more pieces index inside = flat_map-take_more (λ piece. piece.now) pieces index _ inside

pub loop-piece-init : goal.loop-piece-init
loop-piece-init c = record {
  cuts = rw c.new-blocks.ensures.items c.in_ok-cutter.ensures.start;
  all = c.new-blocks.ensures.items ∙ sym (ap (λ (f : Framing). f.blocks) nothing-framed);
}

pub feed-requires : goal.feed-requires
feed-requires c =
    let pieces : List (Bor (List ℕ)) = c.args.pieces.now in
    let index : ℕ = c.loop-piece.piece-index in
    let more : joined pieces (index + 1) ≡ joined pieces index ++ piece_at pieces index = joined_more pieces index c.loop-piece-test.true in
    let within : length (joined pieces (index + 1)) ≤ length (flat_map (λ (piece : Bor (List ℕ)). piece.now) pieces) = length-flat_map-take (λ piece. piece.now) pieces (index + 1) in
    omega (arith, c.loop-piece.invariant.cuts.count, ap length more, length-append (joined pieces index) (piece_at pieces index))

pub loop-piece-preserved : goal.loop-piece-preserved
loop-piece-preserved c =
    let pieces : List (Bor (List ℕ)) = c.args.pieces.now in
    let index : ℕ = c.loop-piece.piece-index in
    let more : joined pieces (index + 1) ≡ joined pieces index ++ piece_at pieces index = joined_more pieces index c.loop-piece-test.true in
    let fed : Cuts c.feed.new.self (joined pieces (index + 1)) c.loop-piece.blocks.items =
    rw more (c.in_ok-feed.ensures.fed _ _ c.loop-piece.invariant.cuts) in
    record {
      cuts = c.in_ok-take_blocks.ensures.given.cuts _ fed;
      all = c.in_ok-take_blocks.ensures.given.all _ fed;
    }

no_octets : (xs : List ℕ) → length xs ≡ 0 → xs ≡ []
no_octets [] h = refl
no_octets (x ∷ xs) h = absurd (omega arith)

-- where the pieces have no octet the next of them has none
nothing_more : (pieces : List (Bor (List ℕ))) (index : ℕ) → index < length pieces → octets_of pieces ≡ [] → length (piece_at pieces index) ≡ 0
nothing_more pieces index inside none =
    let within : length (joined pieces (index + 1)) ≤ length (octets_of pieces) = length-flat_map-take (λ piece. piece.now) pieces (index + 1) in
    omega (arith, ap length none, ap length (joined_more pieces index inside), length-append (joined pieces index) (piece_at pieces index))

pub returns-in_err-feed-clause-memory : goal.returns-in_err-feed-clause-memory
returns-in_err-feed-clause-memory c =
    let p = err_from_is_err_and c.from_residual-in_err-feed.result c.from_residual-in_err-feed.ensures.1 in
    rw p.1 (λ none. c.in_err-feed.ensures.memory (no_octets _ (nothing_more c.args.pieces.now c.loop-piece.piece-index c.loop-piece-test.true none)))

pub returns-in_err-take_blocks-clause-memory : goal.returns-in_err-take_blocks-clause-memory
returns-in_err-take_blocks-clause-memory c =
    let p = err_from_is_err_and c.from_residual-in_err-take_blocks.result c.from_residual-in_err-take_blocks.ensures.1 in
    let pieces : List (Bor (List ℕ)) = c.args.pieces.now in
    let index : ℕ = c.loop-piece.piece-index in
    let fed : Cuts c.feed.new.self (joined pieces index ++ piece_at pieces index) c.loop-piece.blocks.items = c.in_ok-feed.ensures.fed _ _ c.loop-piece.invariant.cuts in
    rw p.1 (λ none.
    let within : length (joined pieces (index + 1)) ≤ length (octets_of pieces) = length-flat_map-take (λ piece. piece.now) pieces (index + 1) in
    let held : length c.feed.new.self.octets ≡ 0 = omega (arith, fed.count, ap length none, ap length (joined_more pieces index c.loop-piece-test.true)) in
    c.in_err-take_blocks.ensures.memory (nothing-held c.feed.new.self held))
