-- What the nets rely on of tables and of eligible rows (this project's profile).
use Rattle.std.specs.Prelude.{◌≡◌, ◌<◌, ◌≤ℤ◌, List, length, slice_get, Some, All, pos}
use Rattle.site_types.specs.Ranges.{IsSet}
use Rattle.site_types.specs.declared.site.Set.{Set}
use Rattle.site_types.specs.declared.site.Site.{Site}
use Rattle.track_motion.specs.declared.track.TrackKey.{TrackKey}
use Rattle.track_motion.specs.Motions.{InRange}
use Rattle.track_table.specs.declared.table.Frozen.{Frozen}
use Rattle.track_table.specs.Proper.{IsProper}
use Rattle.cycle_workers.specs.declared.movers.Mover.{Mover}

-- a key in two octets and 16 bits
pub record IsKey (key : TrackKey) : Type 0 where
  pub sac : key.sac < 256
  pub sic : key.sic < 256
  pub number : key.number < 65536

-- its key is one, its motion is in range, and the site has its set
pub record IsMover (site : Site) (m : Mover) : Type 0 where
  pub key : IsKey m.key
  pub motion : InRange m.motion
  pub set : m.set < length site.sets

-- the parameter set of a mover, in range
pub record IsSetOf (site : Site) (m : Mover) (set : Set) : Type 0 where
  pub one : slice_get site.sets m.set ≡ Some set
  pub range : IsSet set

abbrev pub AreMovers : Site → List Mover → Type 0
AreMovers site movers = All (IsMover site) movers

-- a table that all nets can look at: it is proper, and its time counts on from a midnight
pub record IsCycleTable (frozen : Frozen) : Type 0 where
  pub proper : IsProper frozen
  pub time : pos 0 ≤ℤ frozen.time
