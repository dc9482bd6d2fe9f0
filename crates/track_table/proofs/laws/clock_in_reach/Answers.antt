use Rattle.track_table.specs.Stamps.{clock_at_start}
use Rattle.track_table.proofs.Feeds.{half_a_day_each, never_back}
use Rattle.track_table.proofs.laws.clock_in_reach.Goals as goal

pub returns-clause-low : goal.returns-clause-low
returns-clause-low c = λ start period tracks. never_back (clock_at_start start period) tracks

pub returns-clause-high : goal.returns-clause-high
returns-clause-high c = λ start period tracks. half_a_day_each (clock_at_start start period) tracks
