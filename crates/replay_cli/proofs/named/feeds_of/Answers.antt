use Rattle.std.proofs.Common.{◌≡◌, ◌∙◌, ◌<◌, ◌≤◌, [], ℕ, List, get_or, length, sym, ap, arith, rules}
use Rattle.std.proofs.lemmas.List.{get_or_default}
use Rattle.std.proofs.lemmas.List.Elements.{All-push}
use Rattle.std.specs.String.{string_bytes}
use Rattle.feed_reader.specs.Feeds.{IsTellable}
use Rattle.replay_cli.specs.Found.{ReadsNamed}
use Rattle.replay_cli.specs.declared.texts.Refusal.{Refusal}
use Rattle.replay_cli.proofs.Read.{all_read, one_more_read}
use Rattle.replay_cli.proofs.Under.{as_many, memory_among, name_at, stops_unread}
use Rattle.replay_cli.proofs.named.feeds_of.Goals as goal

pub loop-i-init : goal.loop-i-init
loop-i-init g c = search rules

pub returns-in_err-push-in-Ok-clause-fault : goal.returns-in_err-push-in-Ok-clause-fault
returns-in_err-push-in-Ok-clause-fault g c =
    let count = as_many string_bytes c.into_vec-names.result.items c.args.names c.into_vec-names.ensures in
    let within : c.loop-i.i < length c.args.names = search rules in
    memory_among (g.W.World.files c.args.world.now) (g.W.World.faults c.args.world.now) (g.W.World.faults c.feed_under.new.world) c.args.names (get_or c.args.names c.loop-i.i []) c.from_residual.result
    (c.loop-i.i, within, get_or_default c.args.names c.loop-i.i _ [] within) c.from_residual.ensures.1

pub returns-in-Err-clause-fault : goal.returns-in-Err-clause-fault
returns-in-Err-clause-fault g c =
    let name : List ℕ = c.deref.result.now in
    let count = as_many string_bytes c.into_vec-names.result.items c.args.names c.into_vec-names.ensures in
    let within : c.loop-i.i < length c.args.names = search rules in
    let kept = as_many string_bytes c.loop-i.names.items c.args.names c.loop-i.invariant.names in
    let inside : c.loop-i.i < length c.loop-i.names.items = omega arith in
    let here = name_at string_bytes c.loop-i.names.items c.args.names c.loop-i.i c.index.result.now name c.loop-i.invariant.names inside c.index.ensures c.deref.ensures in
    let taken : c.swap_remove.result ≡ c.index.result.now = c.swap_remove.ensures.value ∙ get_or_default c.loop-i.names.items c.loop-i.i _ _ inside ∙ sym c.index.ensures in
    let same : c.new.result ≡ name = c.new.ensures ∙ ap string_bytes taken ∙ sym c.deref.ensures in
    let opened = rw (c.loop-i.invariant.files, c.loop-i.invariant.kept) at c.in-Err.ensures.opened in
    let failed = rw c.loop-i.invariant.kept at c.in-Err.ensures.failed in (
      name,
      (c.loop-i.i, within, sym here),
      rw (c.unread_of.ensures, same) (stops_unread (λ (cause : Refusal). ⊥) (g.W.World.files c.args.world.now) (g.W.World.faults c.args.world.now) (g.W.World.faults c.feed_under.new.world) name c.in-Err.unread opened failed),
    )

pub loop-i-preserved : goal.loop-i-preserved
loop-i-preserved g c =
    let name : List ℕ = c.deref.result.now in
    let count = as_many string_bytes c.into_vec-names.result.items c.args.names c.into_vec-names.ensures in
    let within : c.loop-i.i < length c.args.names = search rules in
    let kept = as_many string_bytes c.loop-i.names.items c.args.names c.loop-i.invariant.names in
    let inside : c.loop-i.i < length c.loop-i.names.items = omega arith in
    let here = name_at string_bytes c.loop-i.names.items c.args.names c.loop-i.i c.index.result.now name c.loop-i.invariant.names inside c.index.ensures c.deref.ensures in
    let told : ReadsNamed (g.W.World.files c.args.world.now) name c.in-Ok.input = rw c.loop-i.invariant.files at c.in-Ok.ensures.told in
    record {
      names = c.loop-i.invariant.names;
      read = rw c.in_ok-push-in-Ok.ensures.items (one_more_read (g.W.World.files c.args.world.now) c.args.names c.loop-i.i name c.loop-i.inputs.items c.in-Ok.input within here c.loop-i.invariant.read told);
      tellable = rw c.in_ok-push-in-Ok.ensures.items (All-push IsTellable c.loop-i.inputs.items c.in-Ok.input c.loop-i.invariant.tellable c.in-Ok.ensures.tellable);
      count = search rules;
      files = search rules;
      closed = search rules;
      kept = search rules;
    }

pub returns-clause-told : goal.returns-clause-told
returns-clause-told g c =
    let count = as_many string_bytes c.into_vec-names.result.items c.args.names c.into_vec-names.ensures in
    let past : length c.args.names ≤ c.loop-i.i = search rules in
    all_read (g.W.World.files c.args.world.now) c.args.names c.loop-i.i c.loop-i.inputs.items past c.loop-i.invariant.read

pub returns-clause-count : goal.returns-clause-count
returns-clause-count g c =
    let count = as_many string_bytes c.into_vec-names.result.items c.args.names c.into_vec-names.ensures in
    search rules
