use Rattle.std.proofs.Common.{◌+◌, ap}
use Rattle.std.proofs.lemmas.Result.{err_from_is_err_and}
use Rattle.std.proofs.lemmas.List.{length_push}
use Rattle.std.proofs.lemmas.List.Elements.{All-push}
use Rattle.toml.specs.View.{table_view}
use Rattle.site_fields.specs.Entries.{entries}
use Rattle.site_fields.proofs.EntrySteps.{one_more, name_refused, entry_refused}
use Rattle.site_fields.proofs.entries.entries_of.Goals as goal

pub returns-in_err-own_name-clause-fault : goal.returns-in_err-own_name-clause-fault
returns-in_err-own_name-clause-fault g c =
    let p = err_from_is_err_and c.from_residual-in_err-own_name.result c.from_residual-in_err-own_name.ensures.1 in
    rw (p.1, p.2) (λ h. name_refused (λ t. table_view t.now) c.args.tables.now c.loop-entry-test.true c.index-tables-entry.is c.loop-entry.invariant.0 _ (c.in_err-own_name.ensures.fault h))

pub returns-in_err-read-clause-fault : goal.returns-in_err-read-clause-fault
returns-in_err-read-clause-fault g c =
    let p = err_from_is_err_and c.from_residual-in_err-read.result c.from_residual-in_err-read.ensures.1 in
    let n = c.in_ok-own_name.ensures.ok in
    rw (p.1, p.2) (λ h. entry_refused (λ t. table_view t.now) c.args.tables.now c.loop-entry-test.true c.index-tables-entry.is c.loop-entry.invariant.0 n.0 _ n.1 (c.in_err-read.ensures.fault h))

pub loop-entry-preserved : goal.loop-entry-preserved
loop-entry-preserved g c =
    let n = c.in_ok-own_name.ensures.ok in (
      rw (n.2, c.in_ok-push.ensures.items) (one_more (λ t. table_view t.now) c.args.tables.now c.loop-entry-test.true c.index-tables-entry.is c.loop-entry.invariant.0 n.0 _ n.1 c.in_ok-read.ensures.ok),
      rw c.in_ok-push.ensures.items (All-push (g.R.ReadEntry.IsRead c.args.reader.now) c.loop-entry.list.items _ c.loop-entry.invariant.1 c.in_ok-read.ensures.inside),
      rw (c.in_ok-push.ensures.items, length_push) (ap (λ n. n + 1) c.loop-entry.invariant.2),
    )
