-- The hits of a cycle and the words for them, and how many pairs there are.
use Rattle.std.proofs.Common.{◌≡◌, ◌↔◌, ◌∙◌, refl, sym, ap, subst, ◌⊎◌, inl, inr, ℕ, ◌+◌, ◌*◌, ◌-◌, suc, List, [], ◌∷◌, ◌++◌, map, length, Option, Some, None, arith}
use Rattle.std.specs.List.{AllByRecursion, Contains, filter_map, slice_get}
use Rattle.std.specs.List.Sorted.{IsStrictlySortedBy}
use Rattle.std.specs.Option.{option_map_or}
use Rattle.std.specs.declared.cmp.Ordering.TheVariants.{Less}
use Rattle.std.specs.Ordering.{ordering_reverse}
use Rattle.std.proofs.lemmas.Cmp.{tied_itself}
use Rattle.alert_states.specs.declared.event.Hit.{Hit}
use Rattle.site_types.specs.declared.net.Net.{Net}
use Rattle.site_types.specs.declared.net.Net.TheVariants.{Apm, Apw, Msaw, Stca}
use Rattle.site_types.specs.declared.site.Set.{Set}
use Rattle.site_types.specs.declared.site.Site.{Site}
use Rattle.track_motion.specs.declared.track.TrackKey.{TrackKey}
use Rattle.track_motion.specs.Keys.{key_cmp}
use Rattle.track_table.specs.declared.table.Frozen.{Frozen}
use Rattle.track_table.specs.Proper.{IsProper}
use Rattle.cycle_workers.specs.declared.movers.Mover.{Mover}
use Rattle.cycle_workers.specs.Eligible.{mover_of, movers}
use Rattle.cycle_workers.specs.Hits.{apm_hit_by, apw_hit_by, count_pairs, hit_of, hits_by, hits_of, msaw_hit_by, numbered, row_hits, stca_hits}
use Rattle.cycle_workers.specs.Members.{IsEligible, IsHitOf, IsPairHit, IsRowHit}
use Rattle.cycle_workers.specs.Settings.{Setting}
use Rattle.cycle_workers.proofs.Elements.{In, contains_in, found_in, in_append, in_contains, in_found, in_left, in_right}
use Rattle.cycle_workers.proofs.Keys.{key_total}
use Rattle.cycle_workers.proofs.Sites.{movers_rise}

-- ---- eligible rows

in_movers : (site : Site) (net : Net) (frozen : Frozen) (m : Mover) → In m (movers site net frozen) → IsEligible site net frozen m
in_movers site net frozen m h =
    let one = in_found (mover_of site net frozen.time) frozen.rows m h in
    record { row = one.0; listed = in_contains frozen.rows one.0 one.1; seen = one.2 }

movers_in : (site : Site) (net : Net) (frozen : Frozen) (m : Mover) → IsEligible site net frozen m → In m (movers site net frozen)
movers_in site net frozen m is = found_in (mover_of site net frozen.time) frozen.rows is.row m (contains_in frozen.rows is.row is.listed) is.seen

-- ---- pairs

abbrev Rise : List Mover → Type 0
Rise movers = IsStrictlySortedBy key_cmp (map (λ m. m.key) movers)

above : (a b : Mover) (others : List Mover) → AllByRecursion (λ k. key_cmp a.key k ≡ Less) (map (λ m. m.key) others) → In b others → key_cmp a.key b.key ≡ Less
above a b [] all h = absurd h
above a b (m ∷ others) all (inl is) = subst (λ (x : Mover). key_cmp a.key x.key ≡ Less) is all.0
above a b (m ∷ others) all (inr h) = above a b others all.1 h

-- a hit of two of the rows
record IsFound (site : Site) (movers : List Mover) (hit : Hit) : Type 0 where
  a : Mover
  b : Mover
  first : In a movers
  second : In b movers
  order : key_cmp a.key b.key ≡ Less
  are_hit : hit_of site a b ≡ Some hit

in_pairs : (site : Site) (movers : List Mover) (hit : Hit) → Rise movers → In hit (stca_hits site movers) → IsFound site movers hit
unfolding IsStrictlySortedBy
in_pairs site [] hit up h = absurd h
in_pairs site (a ∷ others) hit up h = elim (in_append (filter_map (hit_of site a) others) (stca_hits site others) hit h) [
  | inl first ↦
      (let one = in_found (hit_of site a) others hit first in
      record { a = a; b = one.0; first = inl refl; second = inr one.1; order = above a one.0 others up.0 one.1; are_hit = one.2 })
  | inr rest ↦
      (let one = in_pairs site others hit up.1 rest in
      record { a = one.a; b = one.b; first = inr one.first; second = inr one.second; order = one.order; are_hit = one.are_hit })
]

never_both : (a b : TrackKey) → key_cmp a b ≡ Less → key_cmp b a ≡ Less → ⊥
never_both a b up down =
    let turned : key_cmp a b ≡ ordering_reverse (key_cmp b a) = key_total.antisymm a b in
    let other : ordering_reverse (key_cmp b a) ≡ ordering_reverse Less = ap ordering_reverse down in
    let no : ⊥ = cc in
    absurd no

never_itself : (a : TrackKey) → key_cmp a a ≡ Less → ⊥
never_itself a up = never_both a a up up

pairs_in : (site : Site) (movers : List Mover) (hit : Hit) (a b : Mover) → Rise movers → In a movers → In b movers → key_cmp a.key b.key ≡ Less → hit_of site a b ≡ Some hit → In hit (stca_hits site movers)
unfolding IsStrictlySortedBy
pairs_in site [] hit a b up first second order is = absurd first
pairs_in site (m ∷ others) hit a b up (inl at) (inl also) order is =
    absurd (never_itself a.key (subst (λ (x : Mover). key_cmp a.key x.key ≡ Less) (sym also ∙ at) order))
pairs_in site (m ∷ others) hit a b up (inl at) (inr second) order is =
    in_left (filter_map (hit_of site m) others) (stca_hits site others) hit (found_in (hit_of site m) others b hit second (ap (λ (x : Mover). hit_of site x b) at ∙ is))
pairs_in site (m ∷ others) hit a b up (inr first) (inl also) order is =
    absurd (never_both a.key m.key (subst (λ (x : Mover). key_cmp a.key x.key ≡ Less) (sym also) order) (above m a others up.0 first))
pairs_in site (m ∷ others) hit a b up (inr first) (inr second) order is =
    in_right (filter_map (hit_of site m) others) (stca_hits site others) hit (pairs_in site others hit a b up.1 first second order is)

pair_found : (site : Site) (frozen : Frozen) (hit : Hit) → IsProper frozen → In hit (stca_hits site (movers site Stca frozen)) → IsPairHit site frozen hit
pair_found site frozen hit proper h =
    let one = in_pairs site (movers site Stca frozen) hit (movers_rise site Stca frozen proper.keys) h in
    record {
      a = one.a;
      b = one.b;
      first = in_movers site Stca frozen one.a one.first;
      second = in_movers site Stca frozen one.b one.second;
      order = one.order;
      are_hit = one.are_hit;
    }

pair_listed : (site : Site) (frozen : Frozen) (hit : Hit) → IsProper frozen → IsPairHit site frozen hit → In hit (stca_hits site (movers site Stca frozen))
pair_listed site frozen hit proper is =
    pairs_in site (movers site Stca frozen) hit is.a is.b (movers_rise site Stca frozen proper.keys)
    (movers_in site Stca frozen is.a is.first) (movers_in site Stca frozen is.b is.second) is.order is.are_hit

-- ---- rows with objects

module _ {O : Type 0} (site : Site) (hit_by : Set → Mover → ℕ × O → Option Hit) (objects : List O) where
  -- a hit of a row by an object
  record IsBy (m : Mover) (hit : Hit) : Type 0 where
    set : Set
    set_is : slice_get site.sets m.set ≡ Some set
    object : ℕ × O
    listed : Contains (numbered objects) object
    is_hit : hit_by set m object ≡ Some hit

  in_row_at : (m : Mover) (hit : Hit) (o : Option Set) → slice_get site.sets m.set ≡ o → In hit (option_map_or (λ set. filter_map (hit_by set m) (numbered objects)) o []) → IsBy m hit
  in_row_at m hit None is h = absurd h
  in_row_at m hit (Some set) is h =
      let one = in_found (hit_by set m) (numbered objects) hit h in
      record { set = set; set_is = is; object = one.0; listed = in_contains (numbered objects) one.0 one.1; is_hit = one.2 }

  row_in : (m : Mover) (hit : Hit) → IsBy m hit → In hit (row_hits site hit_by objects m)
  row_in m hit is =
      rw is.set_is (found_in (hit_by is.set m) (numbered objects) is.object hit (contains_in (numbered objects) is.object is.listed) is.is_hit)

  in_rows : (movers : List Mover) (hit : Hit) → In hit (hits_by site hit_by objects movers) → (m : Mover) × In m movers × IsBy m hit
  in_rows [] hit h = absurd h
  in_rows (m ∷ others) hit h = elim (in_append (row_hits site hit_by objects m) (hits_by site hit_by objects others) hit h) [
    | inl first ↦ (m, inl refl, in_row_at m hit (slice_get site.sets m.set) refl first)
    | inr rest ↦ (let one = in_rows others hit rest in (one.0, inr one.1, one.2))
  ]

  rows_in : (movers : List Mover) (hit : Hit) (m : Mover) → In m movers → IsBy m hit → In hit (hits_by site hit_by objects movers)
  rows_in [] hit m h is = absurd h
  rows_in (x ∷ others) hit m (inl same) is = in_left (row_hits site hit_by objects x) (hits_by site hit_by objects others) hit (row_in x hit (subst (λ (y : Mover). IsBy y hit) (sym same) is))
  rows_in (x ∷ others) hit m (inr h) is = in_right (row_hits site hit_by objects x) (hits_by site hit_by objects others) hit (rows_in others hit m h is)

  row_found : (net : Net) (frozen : Frozen) (hit : Hit) → In hit (hits_by site hit_by objects (movers site net frozen)) → IsRowHit site net hit_by objects frozen hit
  row_found net frozen hit h =
      let one = in_rows (movers site net frozen) hit h in
      record {
        m = one.0;
        eligible = in_movers site net frozen one.0 one.1;
        set = one.2.set;
        set_is = one.2.set_is;
        object = one.2.object;
        listed = one.2.listed;
        is_hit = one.2.is_hit;
      }

  row_listed : (net : Net) (frozen : Frozen) (hit : Hit) → IsRowHit site net hit_by objects frozen hit → In hit (hits_by site hit_by objects (movers site net frozen))
  row_listed net frozen hit is =
      rows_in (movers site net frozen) hit is.m (movers_in site net frozen is.m is.eligible)
      (record { set = is.set; set_is = is.set_is; object = is.object; listed = is.listed; is_hit = is.is_hit })

-- ---- all hits

module _ (s : Setting) (frozen : Frozen) (hit : Hit) (proper : IsProper frozen) where
  abbrev pairs : List Hit
  pairs = stca_hits s.site (movers s.site Stca frozen)

  abbrev hills : List Hit
  hills = hits_by s.site msaw_hit_by (s.terrain ∷ []) (movers s.site Msaw frozen)

  abbrev volumes : List Hit
  volumes = hits_by s.site (apw_hit_by frozen.time) s.site.volumes (movers s.site Apw frozen)

  abbrev funnels : List Hit
  funnels = hits_by s.site apm_hit_by s.site.funnels (movers s.site Apm frozen)

  said : In hit (hits_of s frozen) → IsHitOf s frozen hit
  said h = elim (in_append pairs (hills ++ volumes ++ funnels) hit h) [
    | inl of_pair ↦ inl (pair_found s.site frozen hit proper of_pair)
    | inr of_row ↦ elim (in_append (hills ++ volumes) funnels hit of_row) [
      | inl before ↦ elim (in_append hills volumes hit before) [
        | inl of_hill ↦ inr (inl (row_found s.site msaw_hit_by (s.terrain ∷ []) Msaw frozen hit of_hill))
        | inr of_volume ↦ inr (inr (inl (row_found s.site (apw_hit_by frozen.time) s.site.volumes Apw frozen hit of_volume)))
      ]
      | inr of_funnel ↦ inr (inr (inr (row_found s.site apm_hit_by s.site.funnels Apm frozen hit of_funnel)))
    ]
  ]

  listed : IsHitOf s frozen hit → In hit (hits_of s frozen)
  listed h = elim h [
    | inl of_pair ↦ in_left pairs (hills ++ volumes ++ funnels) hit (pair_listed s.site frozen hit proper of_pair)
    | inr of_row ↦ in_right pairs (hills ++ volumes ++ funnels) hit (elim of_row [
      | inl of_hill ↦ in_left (hills ++ volumes) funnels hit (in_left hills volumes hit (row_listed s.site msaw_hit_by (s.terrain ∷ []) Msaw frozen hit of_hill))
      | inr of_object ↦ elim of_object [
        | inl of_volume ↦ in_left (hills ++ volumes) funnels hit (in_right hills volumes hit (row_listed s.site (apw_hit_by frozen.time) s.site.volumes Apw frozen hit of_volume))
        | inr of_funnel ↦ in_right (hills ++ volumes) funnels hit (row_listed s.site apm_hit_by s.site.funnels Apm frozen hit of_funnel)
      ]
    ])
  ]

  pub hits_said : Contains (hits_of s frozen) hit ↔ IsHitOf s frozen hit
  hits_said = (λ h. said (contains_in (hits_of s frozen) hit h), λ h. in_contains (hits_of s frozen) hit (listed h))

-- ---- how many pairs

pairs_and_rows : (movers : List Mover) → count_pairs movers * 2 + length movers ≡ length movers * length movers
pairs_and_rows [] = refl
pairs_and_rows (m ∷ others) =
    let rest = pairs_and_rows others in
    grind (arith, rest)

pub pairs_said : (movers : List Mover) → count_pairs movers * 2 ≡ length movers * (length movers - 1)
pairs_said [] = refl
pairs_said (m ∷ others) =
    let all = pairs_and_rows (m ∷ others) in
    grind (arith, all)
