use Rattle.std.proofs.Common.{◌≡◌, ◌∙◌, ◌++◌, sym, ap, append_assoc, w64, to_z, of_z}
use Rattle.std.proofs.lemmas.Int.{to_z-of_z}
use Rattle.std.proofs.lemmas.List.{append-nil}
use Rattle.std.proofs.Math.ListN.{drop_of_length-le}
use Rattle.cycle_workers.specs.Hits.{apw_hit_by, hits_by}
use Rattle.cycle_workers.proofs.ByObject.{rows_left}
use Rattle.cycle_workers.proofs.volumes.add_volume_hits.Goals as goal

pub loop-m-preserved : goal.loop-m-preserved
loop-m-preserved c =
    let time = to_z w64 (of_z w64 c.args.time) in
    let more = rows_left c.args.site.now (apw_hit_by time) c.args.areas.now c.args.movers.now c.loop-m.m-index c.set_of.result.now c.loop-m-test.true c.set_of.ensures.one in
    record {
      found = rw (c.in_ok-add_row_hits.ensures.hits, append_assoc) (ap (λ hits. c.loop-m.hits.items ++ hits) (sym more) ∙ c.loop-m.invariant.found);
      room = c.in_ok-add_row_hits.ensures.room;
    }

pub returns-clause-hits : goal.returns-clause-hits
returns-clause-hits c =
    let time : to_z w64 (of_z w64 c.args.time) ≡ c.args.time = to_z-of_z w64 c.args.time c.ranges.time in
    let none = ap (hits_by c.args.site.now (apw_hit_by c.args.time) c.args.areas.now) (drop_of_length-le c.args.movers.now c.loop-m-test.false) in
    sym (ap (λ hits. c.loop-m.hits.items ++ hits) none ∙ append-nil c.loop-m.hits.items) ∙ rw time at c.loop-m.invariant.found
