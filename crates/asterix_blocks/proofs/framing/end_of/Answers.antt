use Rattle.std.proofs.Common.{◌∙◌, ap, sym, List, ℕ, ◌+◌, refl, arith}
use Rattle.asterix_blocks.specs.Framing.{Framing}
use Rattle.asterix_blocks.proofs.Framings.{OneMore, OneMore-found, OneMore-rest, framing_from-left, rest_from}
use Rattle.asterix_blocks.proofs.framing.end_of.Goals as goal

abbrev more : (c : goal.In-Some) → OneMore c.args.octets.now c.loop-length.at c.in-Some.length
more c =
    OneMore-found c.args.octets.now _ c.loop-length.at c.in-Some.length _ c.loop-length.invariant.within (rest_from _ _ c.loop-length.at refl) c.whole_length.ensures.length c.in-Some.is

pub loop-length-preserved : goal.loop-length-preserved
loop-length-preserved c =
    let octets : List ℕ = c.args.octets.now in
    let at : ℕ = c.loop-length.at in
    let next : ℕ = c.args.offset + (at + c.in-Some.length) in
    record {
      within = (more c).within;
      same = ap (λ (f : Framing). f.end) (sym (OneMore-rest octets at c.in-Some.length (c.args.offset + at) next (omega arith) (more c))) ∙ c.loop-length.invariant.same;
    }

pub returns : goal.returns
returns c =
    let octets : List ℕ = c.args.octets.now in
    let at : ℕ = c.loop-length.at in
    c.end_at.ensures
    ∙ ap (λ (f : Framing). f.end) (sym (framing_from-left octets _ at (c.args.offset + at) _ _ (rest_from _ _ at refl) c.whole_length.ensures.length c.in_default.is))
    ∙ c.loop-length.invariant.same
