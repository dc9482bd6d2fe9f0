use Rattle.track_table.proofs.Feeds.{near_is}
use Rattle.track_table.proofs.laws.one_near_time.Goals as goal

pub returns-clause-near : goal.returns-clause-near
returns-clause-near c = near_is
