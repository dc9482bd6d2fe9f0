use Rattle.std.proofs.Common.{◌≡◌, ◌∙◌, Some, option_map, sym, ap, w64, to_z, of_z}
use Rattle.std.proofs.lemmas.Int.{to_z-of_z}
use Rattle.airspace_volumes.specs.Apw.{apw_hit}
use Rattle.site_types.specs.declared.net.Net.TheVariants.{Apw}
use Rattle.cycle_workers.specs.Hits.{tick_hit}
use Rattle.cycle_workers.proofs.Soon.{volume_soon}
use Rattle.cycle_workers.proofs.volumes.examine_volume.Goals as goal
use Rattle.cycle_workers.proofs.volumes.examine_volume.Goals.{In-Some}

found : (c : In-Some) → apw_hit c.args.m.now.motion c.args.area.now c.args.time c.args.set.now ≡ Some c.in-Some.hit
found c =
    let time : to_z w64 (of_z w64 c.args.time) ≡ c.args.time = to_z-of_z w64 c.args.time c.ranges.time in
    let hit : c.in_ok-hit.field-0 ≡ apw_hit c.args.m.now.motion c.args.area.now (to_z w64 (of_z w64 c.args.time)) c.args.set.now = c.in_ok-hit.ensures.hit in
    sym (hit ∙ ap (λ t. apw_hit c.args.m.now.motion c.args.area.now t c.args.set.now) time) ∙ c.in-Some.is

pub tick_hit-requires : goal.tick_hit-requires
tick_hit-requires c = record { soon = volume_soon c.args.m.now.motion c.args.area.now c.args.time c.args.set.now c.in-Some.hit c.requires.set c.searches_find_the_first.ensures.finds (found (goal.at.tick_hit-requires c).In-Some) }

pub returns-clause-hit : goal.returns-clause-hit
returns-clause-hit c = ap Some c.tick_hit.ensures.hit ∙ sym (ap (option_map (tick_hit Apw c.args.m.now c.args.object)) (found (goal.at.returns-clause-hit c).In-Some))
