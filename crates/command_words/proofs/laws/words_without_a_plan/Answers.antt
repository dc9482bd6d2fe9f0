use Rattle.clap.specs.Simple.{subcommand_of}
use Rattle.clap.specs.Faults.{fault_of}
use Rattle.command_words.specs.Words.{safetynets}
use Rattle.command_words.proofs.Unplanned.{feeds_are, has_command, outside_is, refused_is, usage_is}
use Rattle.command_words.proofs.laws.words_without_a_plan.Goals as goal

pub returns-clause-usage : goal.returns-clause-usage
returns-clause-usage c words = (
  λ e. usage_is (fault_of safetynets words) (subcommand_of safetynets words) (has_command words) e,
  λ refused. refused_is (fault_of safetynets words) (subcommand_of safetynets words) refused,
)

pub returns-clause-feeds : goal.returns-clause-feeds
returns-clause-feeds c words told = (
  λ e.
      let is = feeds_are (fault_of safetynets words) (subcommand_of safetynets words) told e in
      record { taken = λ refused. refused is.0; outside = is.1.outside; count = is.1.count },
  λ h. outside_is (fault_of safetynets words) (subcommand_of safetynets words) told h.taken (has_command words) h.outside h.count,
)
