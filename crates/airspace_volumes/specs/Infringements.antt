-- Area proximity warning in words: when a volume is active, when a track is hit by it, and what the first tick of the hit is (this project's profile).
use Rattle.std.specs.Prelude.{◌≡◌, ◌⊎◌, ℕ, ◌≤◌, IsTrue, ℤ, pos, ◌≤ℤ◌, ◌<ℤ◌}
use Rattle.site_types.specs.declared.airspace.Volume.{Volume}
use Rattle.site_types.specs.Looks.{look_of}
use Rattle.site_types.specs.declared.site.Set.{Set}
use Rattle.site_types.specs.declared.net.TheConstants.{APW}
use Rattle.track_motion.specs.declared.motion.Motion.{Motion}
use Rattle.polygon_plan.specs.Inside.{IsInsideAt}
use Rattle.airspace_volumes.specs.Active.{is_active}
use Rattle.airspace_volumes.specs.Apw.{IsInBand}

-- the one time is the earlier and m is from it to before the other, or it is the later and m is from it on or before the other
abbrev pub HoldsTime : ℤ → ℤ → ℤ → Type 0
HoldsTime from to m = ((from <ℤ to) × (from ≤ℤ m) × (m <ℤ to)) ⊎ ((to <ℤ from) × ((from ≤ℤ m) ⊎ (m <ℤ to)))

-- the track infringes the volume at a tick: it is one of the look-ahead, and the track is inside the polygon and from the floor to the ceiling then
pub record Infringes (m : Motion) (v : Volume) (set : Set) (t : ℕ) : Type 0 where
  pub ahead : t ≤ look_of APW set
  pub inside : IsInsideAt v.points m (pos t)
  pub in_band : IsInBand m v (pos t)

-- it does so at some tick, and the volume is active
abbrev pub IsHit : Motion → Volume → ℤ → Set → Type 0
IsHit m v time set = IsTrue (is_active v time) × ((t : ℕ) × Infringes m v set t)

-- it does so at this tick and at none before it
pub record IsFirstInfringement (m : Motion) (v : Volume) (set : Set) (t : ℕ) : Type 0 where
  pub infringes : Infringes m v set t
  pub least : (s : ℕ) → Infringes m v set s → t ≤ s

abbrev pub IsFirst : Motion → Volume → Set → ℤ → Type 0
IsFirst m v set first = (t : ℕ) × (first ≡ pos t) × IsFirstInfringement m v set t
