use Rattle.std.proofs.Common.{◌+◌, sym, ap}
use Rattle.std.proofs.lemmas.List.{length_push}
use Rattle.std.proofs.lemmas.List.Elements.{All-push}
use Rattle.site_types.specs.Limits.{IsPair}
use Rattle.site_fields.specs.Pairs.{pair}
use Rattle.site_fields.proofs.Each.{each-next}
use Rattle.site_fields.proofs.pairs.pairs_in.Goals as goal

pub loop-two-preserved : goal.loop-two-preserved
loop-two-preserved c = record {
  so_far = rw c.in_ok-push.ensures.items (each-next (pair c.args.limits c.args.at) c.args.numbers.now c.loop-two.two-index _ c.loop-two.pairs.items _ c.loop-two-test.true c.loop-two.invariant.so_far (sym c.in_ok-pair.ensures.value));
  inside = rw c.in_ok-push.ensures.items (All-push (IsPair c.args.limits) c.loop-two.pairs.items _ c.loop-two.invariant.inside c.in_ok-pair.ensures.inside);
  count = rw (c.in_ok-push.ensures.items, length_push) (ap (λ n. n + 1) c.loop-two.invariant.count);
}
