-- Short term conflict alert in words: when a pair is hit, and what its first and its closest tick are (this project's profile).
use Rattle.std.specs.Prelude.{◌≡◌, ◌⊎◌, ℕ, ◌<◌, ◌≤◌, ℤ, pos, ◌≤ℤ◌}
use Rattle.tick_sets.specs.Plane.{scalar_product}
use Rattle.site_types.specs.Looks.{look_of}
use Rattle.site_types.specs.declared.site.Set.{Set}
use Rattle.site_types.specs.declared.net.TheConstants.{STCA}
use Rattle.track_motion.specs.declared.motion.Motion.{Motion}
use Rattle.stca_fine.specs.Relative.{IsWithin, relative, squared_at}
use Rattle.stca_fine.specs.Stca.{now_v_of, v_of}

-- linear prediction holds at a tick: it is one of the look-ahead, and the two are nearer than both limits then
pub record IsConflict (a b : Motion) (set : Set) (t : ℕ) : Type 0 where
  pub ahead : t ≤ look_of STCA set
  pub within : IsWithin (relative a b) set.h (v_of a b set) (pos t)

-- current proximity holds: at tick 0 the two are nearer than both limits, and their distance doesn't grow
pub record IsCurrent (a b : Motion) (set : Set) : Type 0 where
  pub within : IsWithin (relative a b) set.now_h (now_v_of a b set) (pos 0)
  pub closing : scalar_product (relative a b).dx (relative a b).dy (relative a b).dvx (relative a b).dvy ≤ℤ pos 0

-- one of the two holds
abbrev pub IsHit : Motion → Motion → Set → Type 0
IsHit a b set = IsCurrent a b set ⊎ ((t : ℕ) × IsConflict a b set t)

-- no tick is before this one at which linear prediction holds
pub record IsFirstConflict (a b : Motion) (set : Set) (t : ℕ) : Type 0 where
  pub holds : IsConflict a b set t
  pub least : (s : ℕ) → IsConflict a b set s → t ≤ s

-- the first tick of a hit: 0 in current proximity, else the first of linear prediction
pub record IsFirst (a b : Motion) (set : Set) (first : ℤ) : Type 0 where
  pub current : IsCurrent a b set → first ≡ pos 0
  pub predicted : ¬ IsCurrent a b set → (t : ℕ) × (first ≡ pos t) × IsFirstConflict a b set t

-- the least tick of 0..=last at which f is least
pub record IsLeastOf (f : ℕ → ℕ) (last t : ℕ) : Type 0 where
  pub ahead : t ≤ last
  pub least : (s : ℕ) → s ≤ last → f t ≤ f s
  pub first : (s : ℕ) → s < t → f t < f s

-- the closest tick of a hit: at no tick of the look-ahead the two are nearer, and at each earlier one they are farther apart
abbrev pub IsClosest : Motion → Motion → Set → ℤ → Type 0
IsClosest a b set closest = (t : ℕ) × (closest ≡ pos t) × IsLeastOf (squared_at (relative a b)) (look_of STCA set) t
