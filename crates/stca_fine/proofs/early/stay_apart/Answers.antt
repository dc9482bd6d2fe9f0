use Rattle.std.proofs.Common.{rules, sym, ◌∙◌, arith, w64, FitsSigned}
use Rattle.std.proofs.lemmas.Int.{to_z-of_z}
use Rattle.stca_fine.proofs.Apart.{difference_is}
use Rattle.stca_fine.proofs.Beyond.{drift_between}
use Rattle.stca_fine.proofs.Hits.{apart_x, apart_y, apart_z}
use Rattle.stca_fine.proofs.Sets.{limit_is}
use Rattle.stca_fine.proofs.early.stay_apart.Goals as goal
use Rattle.stca_fine.proofs.early.stay_apart.Goals.{then-stays_beyond, else-stays_beyond}

pub stays_beyond-requires-else-stays_beyond-2-clause-drift : goal.stays_beyond-requires-else-stays_beyond-2-clause-drift
stays_beyond-requires-else-stays_beyond-2-clause-drift c =
    let first = c.requires.pair.first in
    let second = c.requires.pair.second in
    drift_between c.args.a.now.z c.args.b.now.z c.args.a.now.vz c.args.b.now.vz first.z second.z first.vz second.vz

pub returns-then-stays_beyond-2 : goal.returns-then-stays_beyond-2
returns-then-stays_beyond-2 c = λ test.
    let first = c.requires.pair.first in
    let second = c.requires.pair.second in
    let fits : FitsSigned w64 c.look_ahead-look.result = search rules in
    elim c.if-stays_beyond.branch [
      | then-stays_beyond w ↦
          (let beyond = rw (
            difference_is c.args.b.now.x c.args.a.now.x second.x first.x,
            difference_is c.args.b.now.vx c.args.a.now.vx (omega arith) (omega arith),
            limit_is c.greater_h-h.result c.greater_h-h.ensures.limit,
            to_z-of_z w64 c.look_ahead-look.result fits,
          ) at (c.stays_beyond.ensures (sym w.value-is ∙ c.if-stays_beyond-2.true)) in
          apart_x c.searches_find_the_first.ensures.only c.args.a.now c.args.b.now c.args.set.now c.greater_h-h.result c.look_ahead-look.result c.requires.set c.look_ahead-look.ensures.look c.greater_h-h.ensures.h c.greater_h-h.ensures.now_h beyond)
      | else-stays_beyond w ↦
          (let beyond = rw (
            difference_is c.args.b.now.y c.args.a.now.y second.y first.y,
            difference_is c.args.b.now.vy c.args.a.now.vy (omega arith) (omega arith),
            limit_is c.greater_h-h.result c.greater_h-h.ensures.limit,
            to_z-of_z w64 c.look_ahead-look.result fits,
          ) at (w.stays_beyond-else-stays_beyond.ensures (sym w.value-is ∙ c.if-stays_beyond-2.true)) in
          apart_y c.searches_find_the_first.ensures.only c.args.a.now c.args.b.now c.args.set.now c.greater_h-h.result c.look_ahead-look.result c.requires.set c.look_ahead-look.ensures.look c.greater_h-h.ensures.h c.greater_h-h.ensures.now_h beyond)
    ]

pub returns-else-stays_beyond-2 : goal.returns-else-stays_beyond-2
returns-else-stays_beyond-2 c = λ test.
    let first = c.requires.pair.first in
    let second = c.requires.pair.second in
    let fits : FitsSigned w64 c.look_ahead-look.result = search rules in
    let beyond = rw (
      difference_is c.args.b.now.z c.args.a.now.z second.z first.z,
      difference_is c.args.b.now.vz c.args.a.now.vz (omega arith) (omega arith),
      limit_is c.greater_v.result c.greater_v.ensures.limit,
      to_z-of_z w64 c.look_ahead-look.result fits,
    ) at (c.stays_beyond-else-stays_beyond-2.ensures test) in
    apart_z c.searches_find_the_first.ensures.only c.args.a.now c.args.b.now c.args.set.now c.greater_v.result c.look_ahead-look.result c.look_ahead-look.ensures.look c.greater_v.ensures.v c.greater_v.ensures.now_v beyond
