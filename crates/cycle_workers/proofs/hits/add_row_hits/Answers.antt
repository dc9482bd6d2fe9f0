use Rattle.std.proofs.Common.{◌≡◌, refl, ap, List, [], ◌∷◌, ◌++◌, w64, to_z, of_z}
use Rattle.std.proofs.lemmas.Int.{to_z-of_z}
use Rattle.alert_states.specs.declared.event.Hit.{Hit}
use Rattle.site_types.specs.declared.net.Net.TheVariants.{Apm, Apw, Msaw}
use Rattle.cycle_workers.specs.Eligible.{enabled}
use Rattle.cycle_workers.specs.Hits.{apm_hit_by, apw_hit_by, hits_by, msaw_hit_by}
use Rattle.cycle_workers.proofs.hits.add_row_hits.Goals as goal

behind : (old hills volumes funnels : List Hit) → old ++ hills ++ volumes ++ funnels ≡ old ++ (hills ++ volumes ++ funnels)
behind [] hills volumes funnels = refl
behind (x ∷ old) hills volumes funnels = ap (λ (hits : List Hit). x ∷ hits) (behind old hills volumes funnels)

pub returns-clause-hits : goal.returns-clause-hits
returns-clause-hits c =
    let s = c.args.nets.now in
    let all = c.args.all.now in
    let time : to_z w64 (of_z w64 c.args.time) ≡ c.args.time = to_z-of_z w64 c.args.time c.ranges.time in
    let hills : hits_by c.site-site.result.now msaw_hit_by (c.ground.result.now ∷ []) c.deref.result.now ≡ hits_by s.site msaw_hit_by (s.terrain ∷ []) (enabled s.site Msaw all)
    = rw (c.deref.ensures.value, c.in_ok-over.ensures.movers, c.ground.ensures.terrain, c.site-site.ensures.site) refl in
    let volumes : hits_by c.site-site.result.now (apw_hit_by c.args.time) c.areas.result.now c.deref-2.result.now ≡ hits_by s.site (apw_hit_by c.args.time) s.site.volumes (enabled s.site Apw all)
    = rw (c.deref-2.ensures.value, c.in_ok-near.ensures.movers, c.areas.ensures.areas, c.site-site.ensures.site) refl in
    let funnels : hits_by c.site-site.result.now apm_hit_by c.approaches.result.now c.deref-3.result.now ≡ hits_by s.site apm_hit_by s.site.funnels (enabled s.site Apm all)
    = rw (c.deref-3.ensures.value, c.in_ok-landing.ensures.movers, c.approaches.ensures.approaches, c.site-site.ensures.site) refl in
    rw (c.in_ok-add_funnel_hits.ensures.hits, c.in_ok-add_volume_hits.ensures.hits, c.in_ok-add_ground_hits.ensures.hits, time, hills, volumes, funnels)
    (behind c.args.hits.now.items (hits_by s.site msaw_hit_by (s.terrain ∷ []) (enabled s.site Msaw all)) (hits_by s.site (apw_hit_by c.args.time) s.site.volumes (enabled s.site Apw all)) (hits_by s.site apm_hit_by s.site.funnels (enabled s.site Apm all)))
