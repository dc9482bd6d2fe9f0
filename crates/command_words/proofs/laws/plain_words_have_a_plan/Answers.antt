use Rattle.command_words.proofs.PlainWords.{run_plan, replay_plan}
use Rattle.command_words.proofs.laws.plain_words_have_a_plan.Goals as goal

pub returns-clause-replay : goal.returns-clause-replay
returns-clause-replay c site feeds plain are = replay_plan site feeds plain are

pub returns-clause-run : goal.returns-clause-run
returns-clause-run c site workers feeds plain some few are = run_plan site workers feeds plain some few are
