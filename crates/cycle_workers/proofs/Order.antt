-- The order of hits: by the net, by the first key, and then by the second or by the object.
use Rattle.std.proofs.Common.{◌≡◌, ℕ, ◌+◌, ◌<◌, List, [], ◌∷◌, ◌++◌, map, length, Option, Some, None, ℤ, refl, ap, sym, ◌∙◌, append_assoc, arith}
use Rattle.std.specs.List.{AllByRecursion, filter_map, range_with_len, slice_get, zip}
use Rattle.std.specs.List.Sorted.{IsStrictlySortedBy}
use Rattle.std.specs.Option.{option_and_then, option_map, option_map_or}
use Rattle.std.specs.declared.cmp.Ordering.{Ordering}
use Rattle.std.specs.declared.cmp.Ordering.TheVariants.{Less, Equal}
use Rattle.std.specs.Ordering.{nat_cmp, ordering_then}
use Rattle.std.specs.Cmp.{tied_itself}
use Rattle.std.proofs.lemmas.Cmp.{nat_cmp_total}
use Rattle.alert_states.specs.declared.event.Hit.{Hit}
use Rattle.airspace_volumes.specs.Apw.{apw_hit}
use Rattle.site_types.specs.declared.net.Net.{Net}
use Rattle.site_types.specs.declared.net.Net.TheVariants.{Apm, Apw, Msaw, Stca}
use Rattle.alert_states.specs.declared.event.Subject.{Subject}
use Rattle.alert_states.specs.Subjects.{AreInOrder, subject_cmp}
use Rattle.site_types.specs.Nets.{place}
use Rattle.approach_funnel.specs.Apm.{apm_hit}
use Rattle.site_types.specs.declared.airspace.Volume.{Volume}
use Rattle.site_types.specs.declared.funnel.Funnel.{Funnel}
use Rattle.site_types.specs.declared.site.Set.{Set}
use Rattle.site_types.specs.declared.site.Site.{Site}
use Rattle.stca_fine.specs.declared.hit.StcaHit.{StcaHit}
use Rattle.stca_fine.specs.Stca.{stca_hit}
use Rattle.terrain_cells.specs.Msaw.{msaw_hit}
use Rattle.terrain_file.specs.declared.terrain.Terrain.{Terrain}
use Rattle.track_motion.specs.declared.track.TrackKey.{TrackKey}
use Rattle.track_motion.specs.Keys.{key_cmp}
use Rattle.cycle_workers.specs.declared.movers.Mover.{Mover}
use Rattle.cycle_workers.specs.Hits.{apm_hit_by, apw_hit_by, funnel_hit, hit_of, hits_among, hits_by, msaw_hit_by, no_key, numbered, pair_hit, pair_set, row_hits, row_subject, stca_hits, tick_hit}
use Rattle.cycle_workers.specs.Settings.{Setting}
use Rattle.cycle_workers.proofs.Found.{each_found, rise_found}
use Rattle.cycle_workers.proofs.Keys.{key_total, less}

-- whom a hit of a pair is about
abbrev pub subject_of : Mover → Mover → Subject
subject_of a b = record { net = Stca; key = a.key; other = b.key; object = 0 }

hit_tells_in : (a b : Mover) (h : Hit) (hit : Option StcaHit) → option_map (pair_hit a b) hit ≡ Some h → h.subject ≡ subject_of a b
hit_tells_in a b h None is = absurd (cc)
hit_tells_in a b h (Some hit) is = let same : pair_hit a b hit ≡ h = cc in sym (ap (λ (x : Hit). x.subject) same)

hit_tells_at : (a b : Mover) (h : Hit) (set : Option Set) → option_and_then (λ s. option_map (pair_hit a b) (stca_hit a.motion b.motion s)) set ≡ Some h → h.subject ≡ subject_of a b
hit_tells_at a b h None is = absurd (cc)
hit_tells_at a b h (Some set) is = hit_tells_in a b h (stca_hit a.motion b.motion set) is

hit_tells : (site : Site) (a b : Mover) (h : Hit) → hit_of site a b ≡ Some h → h.subject ≡ subject_of a b
hit_tells site a b h is = hit_tells_at a b h (pair_set site a b) is

-- ---- one row

by_second : (o p q r : Ordering) → o ≡ Equal → p ≡ Equal → q ≡ Less → ordering_then o (ordering_then p (ordering_then q r)) ≡ Less
by_second o p q r one two three = rw (one, two, three) refl

by_first : (o p q : Ordering) → o ≡ Equal → p ≡ Less → ordering_then o (ordering_then p q) ≡ Less
by_first o p q one two = rw (one, two) refl

seconds_in_order : (a b c : Mover) → key_cmp b.key c.key ≡ Less → subject_cmp (subject_of a b) (subject_of a c) ≡ Less
seconds_in_order a b c up = by_second (nat_cmp (place Stca) (place Stca)) (key_cmp a.key a.key) (key_cmp b.key c.key) (nat_cmp 0 0) refl (tied_itself key_total a.key) up

subjects_above : (a b : Mover) (others : List Mover) → AllByRecursion (λ k. key_cmp b.key k ≡ Less) (map (λ m. m.key) others) → AllByRecursion (λ s. subject_cmp (subject_of a b) s ≡ Less) (map (subject_of a) others)
subjects_above a b [] above = tt
subjects_above a b (c ∷ cs) above = (seconds_in_order a b c above.0, subjects_above a b cs above.1)

subjects_rise : (a : Mover) (others : List Mover) → IsStrictlySortedBy key_cmp (map (λ m. m.key) others) → IsStrictlySortedBy subject_cmp (map (subject_of a) others)
unfolding IsStrictlySortedBy
subjects_rise a [] up = tt
subjects_rise a (b ∷ bs) up = (subjects_above a b bs up.0, subjects_rise a bs up.1)

row_rises : (site : Site) (a : Mover) (others : List Mover) → IsStrictlySortedBy key_cmp (map (λ m. m.key) others) → AreInOrder (filter_map (hit_of site a) others)
row_rises site a others up = rise_found subject_cmp (subject_of a) (λ (h : Hit). h.subject) (hit_of site a) (hit_tells site a) others (subjects_rise a others up)

-- ---- all rows

-- a net's subject of this first key, and one of a first key above it
abbrev pub IsAt : Net → TrackKey → Subject → Type 0
IsAt net key s = (s.net ≡ net) × (s.key ≡ key)

abbrev pub IsAbove : Net → TrackKey → Subject → Type 0
IsAbove net key s = (s.net ≡ net) × (key_cmp key s.key ≡ Less)

pub each_append : {X : Type 0} (P : X → Type 0) (xs ys : List X) → AllByRecursion P xs → AllByRecursion P ys → AllByRecursion P (xs ++ ys)
each_append P [] ys front back = back
each_append P (x ∷ xs) ys front back = (front.0, each_append P xs ys front.1 back)

at_of : (a b : Mover) (s : Subject) → s ≡ subject_of a b → IsAt Stca a.key s
at_of a b s is = (ap (λ (x : Subject). x.net) is, ap (λ (x : Subject). x.key) is)

pub any : {X : Type 0} (xs : List X) → AllByRecursion (λ x. x ≡ x) xs
any [] = tt
any (x ∷ xs) = (refl, any xs)

row_at : (site : Site) (a : Mover) (others : List Mover) → AllByRecursion (λ (h : Hit). IsAt Stca a.key h.subject) (filter_map (hit_of site a) others)
row_at site a others = each_found (λ (h : Hit). IsAt Stca a.key h.subject) (λ (b : Mover). b ≡ b) (hit_of site a) (λ b h same is. at_of a b h.subject (hit_tells site a b h is)) others (any others)

pub above_from_at : (net : Net) (k l : TrackKey) (hits : List Hit) → key_cmp k l ≡ Less → AllByRecursion (λ (h : Hit). IsAt net l h.subject) hits → AllByRecursion (λ (h : Hit). IsAbove net k h.subject) hits
above_from_at net k l [] up all = tt
above_from_at net k l (h ∷ hs) up all = ((all.0.0, rw all.0.1 up), above_from_at net k l hs up all.1)

hits_above : (site : Site) (k : TrackKey) (movers : List Mover) → AllByRecursion (λ l. key_cmp k l ≡ Less) (map (λ m. m.key) movers) → AllByRecursion (λ (h : Hit). IsAbove Stca k h.subject) (stca_hits site movers)
hits_above site k [] above = tt
hits_above site k (a ∷ others) above =
    each_append (λ (h : Hit). IsAbove Stca k h.subject) (filter_map (hit_of site a) others) (stca_hits site others) (above_from_at Stca k a.key (filter_map (hit_of site a) others) above.0 (row_at site a others)) (hits_above site k others above.1)

firsts_in_order : (net : Net) (k : TrackKey) (s t : Subject) → IsAt net k s → IsAbove net k t → subject_cmp s t ≡ Less
firsts_in_order net k s t at above =
    by_first (nat_cmp (place s.net) (place t.net)) (key_cmp s.key t.key) (ordering_then (key_cmp s.other t.other) (nat_cmp s.object t.object)) (rw (at.0, above.0) (tied_itself nat_cmp_total (place net))) (rw at.1 above.1)

row_below : (net : Net) (k : TrackKey) (s : Subject) (hits : List Hit) → IsAt net k s → AllByRecursion (λ (h : Hit). IsAbove net k h.subject) hits → AllByRecursion (λ t. subject_cmp s t ≡ Less) (map (λ h. h.subject) hits)
row_below net k s [] at all = tt
row_below net k s (h ∷ hs) at all = (firsts_in_order net k s h.subject at all.0, row_below net k s hs at all.1)

map_append : (xs ys : List Hit) → map (λ h. h.subject) (xs ++ ys) ≡ map (λ h. h.subject) xs ++ map (λ h. h.subject) ys
map_append [] ys = refl
map_append (x ∷ xs) ys = ap (λ ss. x.subject ∷ ss) (map_append xs ys)

-- hits of which each of the first ones is below each of the others
stacked : (xs ys : List Hit) → AllByRecursion (λ (h : Hit). AllByRecursion (λ t. subject_cmp h.subject t ≡ Less) (map (λ h. h.subject) ys)) xs → AreInOrder xs → AreInOrder ys → AreInOrder (xs ++ ys)
unfolding IsStrictlySortedBy
stacked [] ys below up_xs up_ys = up_ys
stacked (x ∷ xs) ys below up_xs up_ys =
    (rw (map_append xs ys) (each_append (λ t. subject_cmp x.subject t ≡ Less) (map (λ h. h.subject) xs) (map (λ h. h.subject) ys) up_xs.0 below.0), stacked xs ys below.1 up_xs.1 up_ys)

rows_below : (net : Net) (k : TrackKey) (xs ys : List Hit) → AllByRecursion (λ (h : Hit). IsAt net k h.subject) xs → AllByRecursion (λ (h : Hit). IsAbove net k h.subject) ys →
    AllByRecursion (λ (h : Hit). AllByRecursion (λ t. subject_cmp h.subject t ≡ Less) (map (λ h. h.subject) ys)) xs
rows_below net k [] ys at above = tt
rows_below net k (x ∷ xs) ys at above = (row_below net k x.subject ys at.0 above, rows_below net k xs ys at.1 above)

pub joined : (net : Net) (k : TrackKey) (xs ys : List Hit) → AllByRecursion (λ (h : Hit). IsAt net k h.subject) xs → AllByRecursion (λ (h : Hit). IsAbove net k h.subject) ys → AreInOrder xs → AreInOrder ys → AreInOrder (xs ++ ys)
joined net k xs ys at above up_xs up_ys = stacked xs ys (rows_below net k xs ys at above) up_xs up_ys

-- the hits of all pairs of movers whose keys rise
hits_rise : (site : Site) (movers : List Mover) → IsStrictlySortedBy key_cmp (map (λ m. m.key) movers) → AreInOrder (stca_hits site movers)
unfolding IsStrictlySortedBy
hits_rise site [] up = tt
hits_rise site (a ∷ others) up = joined Stca a.key (filter_map (hit_of site a) others) (stca_hits site others) (row_at site a others) (hits_above site a.key others up.0) (row_rises site a others up.1) (hits_rise site others up.1)

-- ---- hits of rows by objects

each_of_net : (net : Net) (key : TrackKey) (hits : List Hit) → AllByRecursion (λ (h : Hit). IsAt net key h.subject) hits → AllByRecursion (λ (h : Hit). h.subject.net ≡ net) hits
each_of_net net key [] all = tt
each_of_net net key (h ∷ hs) all = (all.0.0, each_of_net net key hs all.1)

made_tells : {H : Type 0} (made : H → Hit) (s : Subject) (o : Option H) (h : Hit) → ((x : H) → (made x).subject ≡ s) → option_map made o ≡ Some h → h.subject ≡ s
made_tells made s None h tells is = absurd (cc)
made_tells made s (Some x) h tells is = let same : made x ≡ h = cc in sym (ap (λ (y : Hit). y.subject) same) ∙ tells x

ground_tells : (set : Set) (m : Mover) (p : ℕ × Terrain) (h : Hit) → msaw_hit_by set m p ≡ Some h → h.subject ≡ row_subject Msaw m p.0
ground_tells set m p h is = made_tells (tick_hit Msaw m p.0) (row_subject Msaw m p.0) (msaw_hit m.motion p.1 set) h (λ x. refl) is

volume_tells : (time : ℤ) (set : Set) (m : Mover) (p : ℕ × Volume) (h : Hit) → apw_hit_by time set m p ≡ Some h → h.subject ≡ row_subject Apw m p.0
volume_tells time set m p h is = made_tells (tick_hit Apw m p.0) (row_subject Apw m p.0) (apw_hit m.motion p.1 time set) h (λ x. refl) is

funnel_tells : (set : Set) (m : Mover) (p : ℕ × Funnel) (h : Hit) → apm_hit_by set m p ≡ Some h → h.subject ≡ row_subject Apm m p.0
funnel_tells set m p h is = made_tells (funnel_hit m p.0) (row_subject Apm m p.0) (apm_hit m.motion p.1 set) h (λ x. refl) is

by_object : (o p q r : Ordering) → o ≡ Equal → p ≡ Equal → q ≡ Equal → r ≡ Less → ordering_then o (ordering_then p (ordering_then q r)) ≡ Less
by_object o p q r one two three four = rw (one, two, three, four) refl

objects_in_order : (net : Net) (m : Mover) (a b : ℕ) → a < b → subject_cmp (row_subject net m a) (row_subject net m b) ≡ Less
objects_in_order net m a b below =
    by_object (nat_cmp (place net) (place net)) (key_cmp m.key m.key) (key_cmp no_key no_key) (nat_cmp a b) (tied_itself nat_cmp_total (place net)) (tied_itself key_total m.key) refl (less a b below)

module _ {O : Type 0} (net : Net) (site : Site) (hit : Set → Mover → ℕ × O → Option Hit) (tells : (set : Set) (m : Mover) (p : ℕ × O) (h : Hit) → hit set m p ≡ Some h → h.subject ≡ row_subject net m p.0) where
  objects_above : (m : Mover) (a b : ℕ) (objects : List O) → a < b → AllByRecursion (λ s. subject_cmp (row_subject net m a) s ≡ Less) (map (λ p. row_subject net m p.0) (zip (range_with_len b (length objects)) objects))
  objects_above m a b [] below = tt
  objects_above m a b (o ∷ os) below = (objects_in_order net m a b below, objects_above m a (b + 1) os (omega arith))

  objects_rise : (m : Mover) (a : ℕ) (objects : List O) → IsStrictlySortedBy subject_cmp (map (λ p. row_subject net m p.0) (zip (range_with_len a (length objects)) objects))
  unfolding IsStrictlySortedBy
  objects_rise m a [] = tt
  objects_rise m a (o ∷ os) = (objects_above m a (a + 1) os (omega arith), objects_rise m (a + 1) os)

  row_at_of : (m : Mover) (object : ℕ) (s : Subject) → s ≡ row_subject net m object → IsAt net m.key s
  row_at_of m object s is = (ap (λ (x : Subject). x.net) is, ap (λ (x : Subject). x.key) is)

  of_row : (m : Mover) (objects : List O) (set : Option Set) → AllByRecursion (λ (h : Hit). IsAt net m.key h.subject) (option_map_or (λ s. filter_map (hit s m) (numbered objects)) set [])
  of_row m objects None = tt
  of_row m objects (Some set) =
      each_found (λ (h : Hit). IsAt net m.key h.subject) (λ (p : ℕ × O). p ≡ p) (hit set m) (λ p h same is. row_at_of m p.0 h.subject (tells set m p h is)) (numbered objects) (any (numbered objects))

  one_row_rises : (m : Mover) (objects : List O) (set : Option Set) → AreInOrder (option_map_or (λ s. filter_map (hit s m) (numbered objects)) set [])
  unfolding IsStrictlySortedBy
  one_row_rises m objects None = tt
  one_row_rises m objects (Some set) = rise_found subject_cmp (λ (p : ℕ × O). row_subject net m p.0) (λ (h : Hit). h.subject) (hit set m) (tells set m) (numbered objects) (objects_rise m 0 objects)

  rows_above : (objects : List O) (k : TrackKey) (movers : List Mover) → AllByRecursion (λ l. key_cmp k l ≡ Less) (map (λ m. m.key) movers) → AllByRecursion (λ (h : Hit). IsAbove net k h.subject) (hits_by site hit objects movers)
  rows_above objects k [] above = tt
  rows_above objects k (m ∷ others) above =
      each_append (λ (h : Hit). IsAbove net k h.subject) (row_hits site hit objects m) (hits_by site hit objects others)
      (above_from_at net k m.key (row_hits site hit objects m) above.0 (of_row m objects (slice_get site.sets m.set))) (rows_above objects k others above.1)

  rows_rise : (objects : List O) (movers : List Mover) → IsStrictlySortedBy key_cmp (map (λ m. m.key) movers) → AreInOrder (hits_by site hit objects movers)
  unfolding IsStrictlySortedBy
  rows_rise objects [] up = tt
  rows_rise objects (m ∷ others) up =
      joined net m.key (row_hits site hit objects m) (hits_by site hit objects others) (of_row m objects (slice_get site.sets m.set)) (rows_above objects m.key others up.0) (one_row_rises m objects (slice_get site.sets m.set)) (rows_rise objects others up.1)

  rows_of : (objects : List O) (movers : List Mover) → AllByRecursion (λ (h : Hit). h.subject.net ≡ net) (hits_by site hit objects movers)
  rows_of objects [] = tt
  rows_of objects (m ∷ others) =
      each_append (λ (h : Hit). h.subject.net ≡ net) (row_hits site hit objects m) (hits_by site hit objects others) (each_of_net net m.key (row_hits site hit objects m) (of_row m objects (slice_get site.sets m.set))) (rows_of objects others)

-- ---- hits of several nets

-- a subject of a net below another's
abbrev IsUnder : Net → Subject → Type 0
IsUnder net s = nat_cmp (place net) (place s.net) ≡ Less

by_net : (o p : Ordering) → o ≡ Less → ordering_then o p ≡ Less
by_net o p one = rw one refl

nets_in_order : (net : Net) (s t : Subject) → s.net ≡ net → IsUnder net t → subject_cmp s t ≡ Less
nets_in_order net s t first second =
    by_net (nat_cmp (place s.net) (place t.net)) (ordering_then (key_cmp s.key t.key) (ordering_then (key_cmp s.other t.other) (nat_cmp s.object t.object))) (rw first second)

net_below : (net : Net) (s : Subject) (hits : List Hit) → s.net ≡ net → AllByRecursion (λ (h : Hit). IsUnder net h.subject) hits → AllByRecursion (λ t. subject_cmp s t ≡ Less) (map (λ h. h.subject) hits)
net_below net s [] first all = tt
net_below net s (h ∷ hs) first all = (nets_in_order net s h.subject first all.0, net_below net s hs first all.1)

nets_below : (net : Net) (xs ys : List Hit) → AllByRecursion (λ (h : Hit). h.subject.net ≡ net) xs → AllByRecursion (λ (h : Hit). IsUnder net h.subject) ys →
    AllByRecursion (λ (h : Hit). AllByRecursion (λ t. subject_cmp h.subject t ≡ Less) (map (λ h. h.subject) ys)) xs
nets_below net [] ys first second = tt
nets_below net (x ∷ xs) ys first second = (net_below net x.subject ys first.0 second, nets_below net xs ys first.1 second)

under : (net other : Net) (hits : List Hit) → nat_cmp (place net) (place other) ≡ Less → AllByRecursion (λ (h : Hit). h.subject.net ≡ other) hits → AllByRecursion (λ (h : Hit). IsUnder net h.subject) hits
under net other [] up all = tt
under net other (h ∷ hs) up all = (rw all.0 up, under net other hs up all.1)

-- behind the hits of a net those of the nets after it
behind : (net : Net) (xs ys : List Hit) → AllByRecursion (λ (h : Hit). h.subject.net ≡ net) xs → AllByRecursion (λ (h : Hit). IsUnder net h.subject) ys → AreInOrder xs → AreInOrder ys → AreInOrder (xs ++ ys)
behind net xs ys first second up_xs up_ys = stacked xs ys (nets_below net xs ys first second) up_xs up_ys

both_under : (net : Net) (xs ys : List Hit) → AllByRecursion (λ (h : Hit). IsUnder net h.subject) xs → AllByRecursion (λ (h : Hit). IsUnder net h.subject) ys → AllByRecursion (λ (h : Hit). IsUnder net h.subject) (xs ++ ys)
both_under net xs ys one two = each_append (λ (h : Hit). IsUnder net h.subject) xs ys one two

of_pairs : (site : Site) (movers : List Mover) → AllByRecursion (λ (h : Hit). h.subject.net ≡ Stca) (stca_hits site movers)
of_pairs site [] = tt
of_pairs site (a ∷ others) = each_append (λ (h : Hit). h.subject.net ≡ Stca) (filter_map (hit_of site a) others) (stca_hits site others) (each_of_net Stca a.key (filter_map (hit_of site a) others) (row_at site a others)) (of_pairs site others)

-- the hits of the four nets, where the keys of each net's rows rise
pub all_rise : (s : Setting) (time : ℤ) (rows : Net → List Mover) → ((net : Net) → IsStrictlySortedBy key_cmp (map (λ m. m.key) (rows net))) → AreInOrder (stca_hits s.site (rows Stca) ++ hits_among s time rows)
all_rise s time rows up =
    let pairs = stca_hits s.site (rows Stca) in
    let hills = hits_by s.site msaw_hit_by (s.terrain ∷ []) (rows Msaw) in
    let volumes = hits_by s.site (apw_hit_by time) s.site.volumes (rows Apw) in
    let funnels = hits_by s.site apm_hit_by s.site.funnels (rows Apm) in
    let of_hills = rows_of Msaw s.site msaw_hit_by ground_tells (s.terrain ∷ []) (rows Msaw) in
    let of_volumes = rows_of Apw s.site (apw_hit_by time) (volume_tells time) s.site.volumes (rows Apw) in
    let of_funnels = rows_of Apm s.site apm_hit_by funnel_tells s.site.funnels (rows Apm) in
    let last : AreInOrder (volumes ++ funnels)
    = behind Apw volumes funnels of_volumes (under Apw Apm funnels refl of_funnels) (rows_rise Apw s.site (apw_hit_by time) (volume_tells time) s.site.volumes (rows Apw) (up Apw))
    (rows_rise Apm s.site apm_hit_by funnel_tells s.site.funnels (rows Apm) (up Apm)) in
    let later : AreInOrder (hills ++ (volumes ++ funnels))
    = behind Msaw hills (volumes ++ funnels) of_hills (both_under Msaw volumes funnels (under Msaw Apw volumes refl of_volumes) (under Msaw Apm funnels refl of_funnels))
    (rows_rise Msaw s.site msaw_hit_by ground_tells (s.terrain ∷ []) (rows Msaw) (up Msaw)) last in
    rw append_assoc (behind Stca pairs (hills ++ (volumes ++ funnels)) (of_pairs s.site (rows Stca))
    (both_under Stca hills (volumes ++ funnels) (under Stca Msaw hills refl of_hills) (both_under Stca volumes funnels (under Stca Apw volumes refl of_volumes) (under Stca Apm funnels refl of_funnels)))
    (hits_rise s.site (rows Stca) (up Stca)) later)
