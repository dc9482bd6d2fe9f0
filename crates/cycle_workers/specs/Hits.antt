-- The hits of a cycle, and what was examined for them (this project's profile).
use Rattle.std.specs.Prelude.{ℕ, ◌+◌, min, Bool, List, [], ◌∷◌, ◌++◌, length, Option, ℤ, unsigned_abs, if◌then◌else◌}
use Rattle.std.specs.List.{filter_map, range_with_len, slice_get, zip}
use Rattle.std.specs.Option.{option_and_then, option_map, option_map_or}
use Rattle.airspace_volumes.specs.Apw.{apw_hit}
use Rattle.alert_states.specs.declared.event.Hit.{Hit}
use Rattle.alert_states.specs.declared.event.HitData.{HitData}
use Rattle.site_types.specs.declared.net.Net.{Net}
use Rattle.site_types.specs.declared.net.Net.TheVariants.{Apm, Apw, Msaw, Stca}
use Rattle.alert_states.specs.declared.event.Subject.{Subject}
use Rattle.alert_states.specs.declared.event.TheConstants.{ABOVE, BELOW, CURRENT_PROXIMITY, LEFT, RIGHT, URGENT}
use Rattle.approach_funnel.specs.Apm.{apm_hit}
use Rattle.approach_funnel.specs.declared.hit.FunnelHit.{FunnelHit}
use Rattle.site_types.specs.declared.airspace.Volume.{Volume}
use Rattle.site_types.specs.declared.funnel.Funnel.{Funnel}
use Rattle.site_types.specs.declared.site.Set.{Set}
use Rattle.site_types.specs.declared.site.Site.{Site}
use Rattle.stca_fine.specs.declared.hit.StcaHit.{StcaHit}
use Rattle.stca_fine.specs.Stca.{stca_hit}
use Rattle.terrain_cells.specs.Msaw.{msaw_hit}
use Rattle.terrain_file.specs.declared.terrain.Terrain.{Terrain}
use Rattle.tick_sets.specs.declared.TickHit.{TickHit}
use Rattle.track_motion.specs.declared.track.TrackKey.{TrackKey}
use Rattle.track_table.specs.declared.table.Frozen.{Frozen}
use Rattle.cycle_workers.specs.declared.movers.Mover.{Mover}
use Rattle.cycle_workers.specs.Eligible.{movers}
use Rattle.cycle_workers.specs.Settings.{Setting}

-- a flag, where it is raised
abbrev pub raised : ℕ → Bool → ℕ
raised flag is = if is then flag else 0

-- the flags of a hit of a pair: urgent, and in current proximity
abbrev pub flags : StcaHit → ℕ
flags hit = raised URGENT hit.urgent + raised CURRENT_PROXIMITY hit.current

-- the figures of a hit as its message tells them
abbrev pub figures : StcaHit → HitData
figures hit = record {
  first = unsigned_abs hit.first;
  closest = unsigned_abs hit.closest;
  chs = hit.chs;
  mhs = hit.mhs;
  cvs = hit.cvs;
  mvs = hit.mvs;
  flags = flags hit;
}

-- a pair's parameter set: the lower-numbered of the two
abbrev pub pair_set : Site → Mover → Mover → Option Set
pair_set site a b = slice_get site.sets (min a.set b.set)

-- what a hit of a pair is to alerts, the one with the lower key first
abbrev pub pair_hit : Mover → Mover → StcaHit → Hit
pair_hit a b hit = record { subject = record { net = Stca; key = a.key; other = b.key; object = 0 }; urgent = hit.urgent; figures = figures hit }

-- the hit of a pair
abbrev pub hit_of : Site → Mover → Mover → Option Hit
hit_of site a b = option_and_then (λ set. option_map (pair_hit a b) (stca_hit a.motion b.motion set)) (pair_set site a b)

-- the hits of all pairs, in the order of their first keys and then of their second
abbrev pub stca_hits : Site → List Mover → List Hit
stca_hits site [] = []
stca_hits site (a ∷ others) = filter_map (hit_of site a) others ++ stca_hits site others

-- how many pairs there are
abbrev pub count_pairs : List Mover → ℕ
count_pairs [] = 0
count_pairs (a ∷ others) = length others + count_pairs others

-- ---- hits of a row by an object of the site

-- the key where a subject has no second track
abbrev pub no_key : TrackKey
no_key = record { sac = 0; sic = 0; number = 0 }

-- whom a hit of a row by the object of this number is about
abbrev pub row_subject : Net → Mover → ℕ → Subject
row_subject net m object = record { net = net; key = m.key; other = no_key; object = object }

-- the figures of a hit that begins at a tick: that tick, and the flags
abbrev pub row_figures : ℤ → ℕ → HitData
row_figures first flags = record {
  first = unsigned_abs first;
  closest = 0;
  chs = 0;
  mhs = 0;
  cvs = 0;
  mvs = 0;
  flags = flags;
}

-- what a hit of a row is to alerts: by the terrain or a volume, and by a funnel
abbrev pub tick_hit : Net → Mover → ℕ → TickHit → Hit
tick_hit net m object hit = record { subject = row_subject net m object; urgent = hit.urgent; figures = row_figures hit.first (raised URGENT hit.urgent) }

abbrev pub funnel_flags : FunnelHit → ℕ
funnel_flags hit = raised URGENT hit.urgent + raised BELOW hit.below + raised ABOVE hit.above + raised LEFT hit.left + raised RIGHT hit.right

abbrev pub funnel_hit : Mover → ℕ → FunnelHit → Hit
funnel_hit m object hit = record { subject = row_subject Apm m object; urgent = hit.urgent; figures = row_figures hit.first (funnel_flags hit) }

-- the hit of a row by an object and its number, by a parameter set
abbrev pub msaw_hit_by : Set → Mover → ℕ × Terrain → Option Hit
msaw_hit_by set m object = option_map (tick_hit Msaw m object.0) (msaw_hit m.motion object.1 set)

abbrev pub apw_hit_by : ℤ → Set → Mover → ℕ × Volume → Option Hit
apw_hit_by time set m object = option_map (tick_hit Apw m object.0) (apw_hit m.motion object.1 time set)

abbrev pub apm_hit_by : Set → Mover → ℕ × Funnel → Option Hit
apm_hit_by set m object = option_map (funnel_hit m object.0) (apm_hit m.motion object.1 set)

-- objects with their numbers, from 0 on in file order
abbrev pub numbered : {O : Type 0} → List O → List (ℕ × O)
numbered objects = zip (range_with_len 0 (length objects)) objects

-- the hits of a row by all objects, by the row's set
abbrev pub row_hits : {O : Type 0} → Site → (Set → Mover → ℕ × O → Option Hit) → List O → Mover → List Hit
row_hits site hit objects m = option_map_or (λ set. filter_map (hit set m) (numbered objects)) (slice_get site.sets m.set) []

-- the hits of all rows by all objects, in the order of the rows' keys and then of the objects' numbers
abbrev pub hits_by : {O : Type 0} → Site → (Set → Mover → ℕ × O → Option Hit) → List O → List Mover → List Hit
hits_by site hit objects [] = []
hits_by site hit objects (m ∷ others) = row_hits site hit objects m ++ hits_by site hit objects others

-- ---- a cycle

-- the hits of rows by the terrain, by all volumes and by all funnels, where each net looks at these rows
abbrev pub hits_among : Setting → ℤ → (Net → List Mover) → List Hit
hits_among s time rows =
    hits_by s.site msaw_hit_by (s.terrain ∷ []) (rows Msaw) ++
    hits_by s.site (apw_hit_by time) s.site.volumes (rows Apw) ++
    hits_by s.site apm_hit_by s.site.funnels (rows Apm)

-- the hits of a table, in the order of subjects
abbrev pub hits_of : Setting → Frozen → List Hit
hits_of s frozen = stca_hits s.site (movers s.site Stca frozen) ++ hits_among s frozen.time (λ net. movers s.site net frozen)

-- how many pairs are examined for them
abbrev pub count_examined : Site → Frozen → ℕ
count_examined site frozen = count_pairs (movers site Stca frozen)
