-- The hits of a cycle in words: which rows are eligible, and which pairs and rows a hit is of (this project's profile).
use Rattle.std.specs.Prelude.{◌≡◌, ◌⊎◌, ℕ, List, [], ◌∷◌, Option, Some}
use Rattle.std.specs.List.{Contains, slice_get}
use Rattle.std.specs.declared.cmp.Ordering.TheVariants.{Less}
use Rattle.alert_states.specs.declared.event.Hit.{Hit}
use Rattle.site_types.specs.declared.net.Net.{Net}
use Rattle.site_types.specs.declared.net.Net.TheVariants.{Apm, Apw, Msaw, Stca}
use Rattle.site_types.specs.declared.site.Set.{Set}
use Rattle.site_types.specs.declared.site.Site.{Site}
use Rattle.track_motion.specs.Keys.{key_cmp}
use Rattle.track_motion.specs.declared.rank.Stamped.{Stamped}
use Rattle.track_table.specs.declared.table.Frozen.{Frozen}
use Rattle.cycle_workers.specs.declared.movers.Mover.{Mover}
use Rattle.cycle_workers.specs.Eligible.{mover_of}
use Rattle.cycle_workers.specs.Hits.{apm_hit_by, apw_hit_by, hit_of, msaw_hit_by, numbered}
use Rattle.cycle_workers.specs.Settings.{Setting}

-- a row of the table that a net looks at, as the net sees it
pub record IsEligible (site : Site) (net : Net) (frozen : Frozen) (m : Mover) : Type 0 where
  pub row : Stamped
  pub listed : Contains frozen.rows row
  pub seen : mover_of site net frozen.time row ≡ Some m

-- the hit of two eligible rows, the one with the lower key first
pub record IsPairHit (site : Site) (frozen : Frozen) (hit : Hit) : Type 0 where
  pub a : Mover
  pub b : Mover
  pub first : IsEligible site Stca frozen a
  pub second : IsEligible site Stca frozen b
  pub order : key_cmp a.key b.key ≡ Less
  pub are_hit : hit_of site a b ≡ Some hit

-- the hit of an eligible row by one of these objects, by the row's set
pub record IsRowHit {O : Type 0} (site : Site) (net : Net) (hit_by : Set → Mover → ℕ × O → Option Hit) (objects : List O) (frozen : Frozen) (hit : Hit) : Type 0 where
  pub m : Mover
  pub eligible : IsEligible site net frozen m
  pub set : Set
  pub set_is : slice_get site.sets m.set ≡ Some set
  pub object : ℕ × O
  pub listed : Contains (numbered objects) object
  pub is_hit : hit_by set m object ≡ Some hit

-- the hit of a pair, or of a row by the terrain, by a volume or by a funnel
abbrev pub IsHitOf : Setting → Frozen → Hit → Type 0
IsHitOf s frozen hit =
    IsPairHit s.site frozen hit ⊎
    (IsRowHit s.site Msaw msaw_hit_by (s.terrain ∷ []) frozen hit ⊎
    (IsRowHit s.site Apw (apw_hit_by frozen.time) s.site.volumes frozen hit ⊎
    IsRowHit s.site Apm apm_hit_by s.site.funnels frozen hit))
