-- Approach path monitor in words: when a track is captured, when it deviates, when it is hit, and what the
-- first tick and the flags of the hit are (this project's profile).
use Rattle.std.specs.Prelude.{◌≡◌, ◌↔◌, ◌⊎◌, ℕ, ◌≤◌, IsTrue, unsigned_abs, ℤ, pos, neg_ℤ, ◌≤ℤ◌, ◌<ℤ◌}
use Rattle.site_types.specs.Looks.{look_of}
use Rattle.site_types.specs.declared.funnel.Funnel.{Funnel}
use Rattle.site_types.specs.declared.site.Set.{Set}
use Rattle.site_types.specs.declared.net.TheConstants.{APM}
use Rattle.track_motion.specs.declared.motion.Motion.{Motion}
use Rattle.approach_funnel.specs.declared.hit.FunnelHit.{FunnelHit}
use Rattle.approach_funnel.specs.Approaches.{along, altitude, distance, offset}
use Rattle.approach_funnel.specs.Apm.{beside, over, reach_of, side_at, slope_at}

-- the track is captured: at tick 0 it is before the threshold and within reach of it, within the sides of capture and not
-- above the ceiling, and it flies in the landing direction
pub record IsCaptured (f : Funnel) (m : Motion) : Type 0 where
  pub before : pos 0 <ℤ distance f m (pos 0)
  pub in_reach : distance f m (pos 0) ≤ℤ reach_of f
  pub in_sides : beside (pos (unsigned_abs (offset f m (pos 0)))) ≤ℤ side_at f f.capture_half f.capture_side (distance f m (pos 0))
  pub not_above : altitude m (pos 0) ≤ℤ f.ceiling
  pub inbound : pos 0 <ℤ along f m.vx m.vy

-- at a tick it is below the lower slope, above the upper one, or beside the funnel
abbrev pub IsBelow : Funnel → Motion → ℤ → Type 0
IsBelow f m t = over f f.low_base (altitude m t) <ℤ slope_at f.low_rise (distance f m t)

abbrev pub IsAbove : Funnel → Motion → ℤ → Type 0
IsAbove f m t = slope_at f.high_rise (distance f m t) <ℤ over f f.high_base (altitude m t)

abbrev pub IsLeft : Funnel → Motion → ℤ → Type 0
IsLeft f m t = side_at f f.half f.side (distance f m t) <ℤ beside (neg_ℤ (offset f m t))

abbrev pub IsRight : Funnel → Motion → ℤ → Type 0
IsRight f m t = side_at f f.half f.side (distance f m t) <ℤ beside (offset f m t)

-- one of these
abbrev pub IsOutside : Funnel → Motion → ℤ → Type 0
IsOutside f m t = IsBelow f m t ⊎ IsAbove f m t ⊎ IsLeft f m t ⊎ IsRight f m t

-- it deviates at a tick: it is one of the look-ahead, and the track is before the threshold and outside then
pub record Deviates (f : Funnel) (m : Motion) (set : Set) (t : ℕ) : Type 0 where
  pub ahead : t ≤ look_of APM set
  pub before : pos 0 <ℤ distance f m (pos t)
  pub outside : IsOutside f m (pos t)

-- it is captured, and deviates at some tick
abbrev pub IsHit : Motion → Funnel → Set → Type 0
IsHit m f set = IsCaptured f m × ((t : ℕ) × Deviates f m set t)

-- it does so at this tick and at none before it
pub record IsFirstDeviation (f : Funnel) (m : Motion) (set : Set) (t : ℕ) : Type 0 where
  pub deviates : Deviates f m set t
  pub least : (s : ℕ) → Deviates f m set s → t ≤ s

abbrev pub IsFirst : Motion → Funnel → Set → ℤ → Type 0
IsFirst m f set first = (t : ℕ) × (first ≡ pos t) × IsFirstDeviation f m set t

-- the flags of a hit say what holds at its first tick
pub record AreFlags (f : Funnel) (m : Motion) (hit : FunnelHit) : Type 0 where
  pub below : IsTrue hit.below ↔ IsBelow f m hit.first
  pub above : IsTrue hit.above ↔ IsAbove f m hit.first
  pub left : IsTrue hit.left ↔ IsLeft f m hit.first
  pub right : IsTrue hit.right ↔ IsRight f m hit.first
