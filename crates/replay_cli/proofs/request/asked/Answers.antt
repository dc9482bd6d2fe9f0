use Rattle.command_words.specs.Words.{texts}
use Rattle.replay_cli.proofs.request.asked.Goals as goal

pub returns-in-Ok-Replay-clause-few : goal.returns-in-Ok-Replay-clause-few
returns-in-Ok-Replay-clause-few c = c.plans_have_few_feeds.ensures (texts c.args.words.now) c.in-Ok-Replay.site c.in-Ok-Replay.feeds (rw c.in-Ok-Replay.field-0-is at c.in-Ok-Replay.ensures.plan)
