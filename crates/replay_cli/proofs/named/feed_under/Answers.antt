use Rattle.replay_cli.proofs.Read.{read_named}
use Rattle.replay_cli.proofs.named.feed_under.Goals as goal

pub returns-clause-told : goal.returns-clause-told
returns-clause-told g c = read_named _ _ _ _ c.in_ok-feed.ensures.bytes c.read_whole-input.ensures.told
