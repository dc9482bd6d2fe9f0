use Rattle.std.proofs.Common.{◌<ℤ◌, ◌≤ℤ◌, ℤ, pos, arith}
use Rattle.std.proofs.lemmas.Int.{ints}
use Rattle.std.proofs.lemmas.List.Elements.{All-from_recursion}
use Rattle.track_motion.specs.declared.rank.Stamped.{Stamped}
use Rattle.track_table.specs.Stamps.{clock_at_start, stamps_of}
use Rattle.track_table.specs.Times.{cycle_time}
use Rattle.track_table.proofs.Feeds.{IsBegun, windows_hold, windows_rise}
use Rattle.track_table.proofs.laws.windows_of_a_feed.Goals as goal

begun : (start period : ℤ) → pos 1 ≤ℤ period → IsBegun (clock_at_start start period)
begun start period some = record { some = some; begun = omega (arith, ints) }

pub returns-clause-rising : goal.returns-clause-rising
returns-clause-rising c = λ start period feed tracks some. windows_rise (clock_at_start start period) feed 0 tracks (begun start period some)

pub returns-clause-inside : goal.returns-clause-inside
returns-clause-inside c = λ start period feed tracks some.
    All-from_recursion (λ (s : Stamped). s.at <ℤ cycle_time start period s.window) (stamps_of start period feed tracks) (windows_hold (clock_at_start start period) feed 0 tracks (begun start period some))
