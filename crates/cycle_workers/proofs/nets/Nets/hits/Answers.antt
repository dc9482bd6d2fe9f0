use Rattle.std.proofs.Common.{◌≡◌, ◌∙◌, ◌++◌, ap, List, rules, w64, to_z, of_z}
use Rattle.std.proofs.lemmas.Int.{to_z-of_z}
use Rattle.alert_states.specs.declared.event.Hit.{Hit}
use Rattle.site_types.specs.declared.net.Net.{Net}
use Rattle.site_types.specs.declared.net.Net.TheVariants.{Stca}
use Rattle.site_types.specs.declared.site.Site.{Site}
use Rattle.cycle_workers.specs.Eligible.{enabled, movers, watched}
use Rattle.cycle_workers.specs.Hits.{count_pairs, hits_of, stca_hits}
use Rattle.cycle_workers.proofs.Keys.{few}
use Rattle.cycle_workers.proofs.Order.{all_rise}
use Rattle.cycle_workers.proofs.Sites.{among_same, eligible_are, eligible_of, movers_rise}
use Rattle.cycle_workers.proofs.nets.Nets.hits.Given.{Over}
use Rattle.cycle_workers.proofs.nets.Nets.hits.Goals as goal
use Rattle.cycle_workers.proofs.nets.Nets.hits.Goals.{After-drop-all-2}

pub pair_hits-requires-clause-few : goal.pair_hits-requires-clause-few
pair_hits-requires-clause-few g c =
    let site = c.site-site.result.now in
    let frozen = c.args.f.now in
    let pairs = eligible_of site Stca frozen c.deref.result.now c.in_ok-pairs.pairs.items (c.deref.ensures.value ∙ c.in_ok-all.ensures.movers) c.in_ok-pairs.ensures.movers in
    let rises = movers_rise site Stca frozen c.requires.proper.keys in
    rw c.deref-2.ensures.value (few site c.in_ok-pairs.pairs.items c.in_ok-pairs.ensures.range (rw pairs rises))

pairs_are : (g : Over) (c : After-drop-all-2 g) → c.deref-2.result.now ≡ movers c.site-site.result.now Stca c.args.f.now
pairs_are g c =
    c.deref-2.ensures.value ∙ eligible_of c.site-site.result.now Stca c.args.f.now c.deref.result.now c.in_ok-pairs.pairs.items (c.deref.ensures.value ∙ c.in_ok-all.ensures.movers) c.in_ok-pairs.ensures.movers

all_are : (g : Over) (c : After-drop-all-2 g) → c.deref-3.result.now ≡ watched c.site-site.result.now c.args.f.now
all_are g c = c.deref-3.ensures.value ∙ c.in_ok-all.ensures.movers

hits_are : (g : Over) (c : After-drop-all-2 g) → c.add_row_hits.new.hits.items ≡ hits_of c.args.self.now c.args.f.now
hits_are g c =
    let nets = c.args.self.now in
    let frozen = c.args.f.now in
    let time : to_z w64 (of_z w64 frozen.time) ≡ frozen.time = to_z-of_z w64 frozen.time (search rules) in
    let rows = among_same nets frozen.time (λ (net : Net). enabled nets.site net (watched nets.site frozen)) (λ (net : Net). movers nets.site net frozen) (λ (net : Net). eligible_are nets.site net frozen) in
    rw (c.in_ok-add_row_hits.ensures.hits, c.in_ok-found.ensures.hits, pairs_are g c, all_are g c, time, c.site-site.ensures.site) (ap (λ (hits : List Hit). stca_hits nets.site (movers nets.site Stca frozen) ++ hits) rows)

pub returns-clause-hits : goal.returns-clause-hits
returns-clause-hits g c = hits_are g c

pub returns-clause-examined : goal.returns-clause-examined
returns-clause-examined g c =
    c.in_ok-found.ensures.examined
    ∙ ap count_pairs (pairs_are g c)
    ∙ ap (λ (site : Site). count_pairs (movers site Stca c.args.f.now)) c.site-site.ensures.site

pub returns-clause-order : goal.returns-clause-order
returns-clause-order g c =
    let nets = c.args.self.now in
    let frozen = c.args.f.now in
    rw (hits_are g c) (all_rise nets frozen.time (λ (net : Net). movers nets.site net frozen) (λ (net : Net). movers_rise nets.site net frozen c.requires.proper.keys))
