use Rattle.command_words.proofs.Unplanned.{few_feeds}
use Rattle.command_words.proofs.laws.plans_have_few_feeds.Goals as goal

pub returns : goal.returns
returns c = few_feeds
