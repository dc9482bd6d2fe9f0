use Rattle.track_table.proofs.Ranked.{feeds_ranked}
use Rattle.track_table.proofs.laws.feeds_are_ranked.Goals as goal

pub returns : goal.returns
returns c = feeds_ranked
