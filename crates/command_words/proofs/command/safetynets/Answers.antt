use Rattle.std.proofs.Common.{◌≡◌, ◌∙◌, rules, ap, ap₂}
use Rattle.std.proofs.lemmas.Result.{IfOk-weaker}
use Rattle.clap.specs.Words.{App, app_of, with_subcommand}
use Rattle.clap.proofs.SimpleLemmas.{plain_fields}
use Rattle.command_words.specs.Words as spec
use Rattle.command_words.proofs.command.safetynets.Goals as goal

pub returns : goal.returns
returns c =
    let bare_is : app_of c.subcommand_required.result ≡ spec.bare = search rules in
    let replay_is : app_of c.in_ok-replay.field-0 ≡ spec.replay = search rules in
    let run_is : app_of c.in_ok-run.field-0 ≡ spec.run = search rules in
    let first_is : app_of c.in_ok-subcommand.field-0 ≡ with_subcommand spec.bare spec.replay.top =
    c.in_ok-subcommand.ensures.shape (plain_fields c.in_ok-replay.field-0 (ap (λ (a : App). a.top.is_plain) replay_is)).globals
    ∙ ap₂ with_subcommand bare_is (ap (λ (a : App). a.top) replay_is) in
    IfOk-weaker c.subcommand-2.result _ _
    (λ command adds. adds.shape (plain_fields c.in_ok-run.field-0 (ap (λ (a : App). a.top.is_plain) run_is)).globals
    ∙ ap₂ with_subcommand first_is (ap (λ (a : App). a.top) run_is))
    c.subcommand-2.ensures
