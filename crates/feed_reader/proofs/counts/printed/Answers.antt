use Rattle.std.proofs.Common.{◌≡◌, ◌∙◌, length, min, take, ap, arith}
use Rattle.std.proofs.lemmas.List.{take_min}
use Rattle.feed_reader.specs.declared.counts.TheConstants.{MOST_REFUSALS}
use Rattle.feed_reader.proofs.counts.printed.Goals as goal

pub returns : goal.returns
returns c =
    let refusals = c.args.refusals.now in
    let count : c.min.result ≡ min MOST_REFUSALS (length refusals) = omega arith in
    ap (λ n. take n refusals) count ∙ take_min MOST_REFUSALS refusals
