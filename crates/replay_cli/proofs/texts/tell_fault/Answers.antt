use Rattle.std.proofs.Common.{◌≡◌, ◌∙◌, ℕ, List, ap, sym, subst}
use Rattle.outside_io.specs.Bytes.{AppendsWhole}
use Rattle.replay_cli.specs.FaultTexts.{text_of_fault}
use Rattle.command_words.specs.Usage.{usage_text}
use Rattle.replay_cli.proofs.texts.tell_fault.Goals as goal

pub returns-in-Usage-clause-bytes : goal.returns-in-Usage-clause-bytes
returns-in-Usage-clause-bytes g c =
    let told : List ℕ → Type 0 = λ text. AppendsWhole (g.K.Sink.taken c.args.sink.now) (g.K.Sink.taken c.write_whole.new.sink) c.write_whole.result text in
    let same : c.as_bytes.result.now ≡ usage_text = c.as_bytes.ensures.value in
    subst told (same ∙ sym (ap text_of_fault c.in-Usage.is)) c.write_whole.ensures.bytes
