use Rattle.std.proofs.Common.{◌≡◌, ◌∙◌, ◌++◌, sym, ap, append_assoc}
use Rattle.std.proofs.lemmas.List.{append-nil}
use Rattle.std.proofs.Math.ListN.{drop_of_length-le}
use Rattle.cycle_workers.specs.Hits.{apm_hit_by, hits_by}
use Rattle.cycle_workers.proofs.ByObject.{rows_left}
use Rattle.cycle_workers.proofs.funnels.add_funnel_hits.Goals as goal

pub loop-m-preserved : goal.loop-m-preserved
loop-m-preserved c =
    let more = rows_left c.args.site.now apm_hit_by c.args.approaches.now c.args.movers.now c.loop-m.m-index c.set_of.result.now c.loop-m-test.true c.set_of.ensures.one in
    record {
      found = rw (c.in_ok-add_row_hits.ensures.hits, append_assoc) (ap (λ hits. c.loop-m.hits.items ++ hits) (sym more) ∙ c.loop-m.invariant.found);
      room = c.in_ok-add_row_hits.ensures.room;
    }

pub returns-clause-hits : goal.returns-clause-hits
returns-clause-hits c =
    let none = ap (hits_by c.args.site.now apm_hit_by c.args.approaches.now) (drop_of_length-le c.args.movers.now c.loop-m-test.false) in
    sym (ap (λ hits. c.loop-m.hits.items ++ hits) none ∙ append-nil c.loop-m.hits.items) ∙ c.loop-m.invariant.found
