use Rattle.std.proofs.Common.{w64}
use Rattle.std.proofs.lemmas.Int.{to_z-of_z}
use Rattle.tick_sets.specs.Ticks.{AreTicksWhere}
use Rattle.airspace_volumes.specs.Apw.{IsInBand}
use Rattle.airspace_volumes.proofs.Hits.{ahead_in_band, found_first}
use Rattle.airspace_volumes.proofs.hit.first_inside.Goals as goal
use Rattle.airspace_volumes.proofs.hit.first_inside.Goals.{After-inside_ticks}

band : (c : After-inside_ticks) → AreTicksWhere (IsInBand c.args.m.now c.args.v.now) c.args.look c.ticks_in_band.result
band c = rw (to_z-of_z w64 c.args.look c.ranges.look) at c.ticks_in_band.ensures

pub returns-clause-first : goal.returns-clause-first
returns-clause-first c = found_first c.searches_find_the_first.ensures.only c.args.m.now c.args.v.now c.args.look c.ticks_in_band.result c.inside_ticks.result c.requires.look (band (goal.at.returns-clause-first c).After-inside_ticks) (rw c.as_slice.ensures at c.inside_ticks.ensures.found) (rw c.as_slice.ensures at c.inside_ticks.ensures.none)

pub returns-clause-memory : goal.returns-clause-memory
returns-clause-memory c = ahead_in_band c.args.m.now c.args.v.now c.args.look c.ticks_in_band.result c.inside_ticks.result (band (goal.at.returns-clause-memory c).After-inside_ticks) c.inside_ticks.ensures.memory
