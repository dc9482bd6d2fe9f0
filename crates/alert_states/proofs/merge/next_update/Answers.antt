use Rattle.std.proofs.Common.{sym}
use Rattle.alert_states.proofs.Merging.{next_greater, next_less}
use Rattle.alert_states.proofs.merge.next_update.Goals as goal

pub returns-in-Less-clause-first : goal.returns-in-Less-clause-first
returns-in-Less-clause-first c =
    rw c.next_kept-in-Less.ensures (next_less c.args.entries.now c.args.hits.now c.in-Some-Some.entry.now c.in-Some-Some.hit.now (sym c.in-Some-Some.ensures.value) (sym c.in-Some-Some.ensures'.value) (sym c.in-Less.ensures))

pub returns-in-Greater-clause-first : goal.returns-in-Greater-clause-first
returns-in-Greater-clause-first c =
    rw c.next_hit-in-Greater.ensures (next_greater c.args.entries.now c.args.hits.now c.in-Some-Some.entry.now c.in-Some-Some.hit.now (sym c.in-Some-Some.ensures.value) (sym c.in-Some-Some.ensures'.value) (sym c.in-Greater.ensures))
