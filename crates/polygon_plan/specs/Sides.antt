-- What the steps towards the answers find: on which side of an edge a place is, and the ticks at which edges count (this project's profile).
use Rattle.std.specs.Prelude.{◌≡◌, IsTrue, List, ℤ, pos, ◌-ℤ◌, ◌*ℤ◌, ◌≤ℤ◌, ◌<ℤ◌}
use Rattle.tick_sets.specs.Inequalities.{line_at}
use Rattle.tick_sets.specs.Ticks.{sets_with}
use Rattle.tick_sets.specs.declared.Ticks.{Ticks}
use Rattle.track_motion.specs.declared.motion.Motion.{Motion}
use Rattle.polygon_plan.specs.Inside.{counts, crossings}

-- below 0 where (x, y) is to the left of (u, v), seen along it from (0, 0)
abbrev pub cross_product : ℤ → ℤ → ℤ → ℤ → ℤ
cross_product x y u v = x *ℤ v -ℤ u *ℤ y

-- at tick t the place is from the height of the one end to below that of the other
abbrev pub IsBetween : Motion → ℤ → ℤ → ℤ → Type 0
IsBetween m low high t = (low ≤ℤ line_at m.vy m.y t) × (line_at m.vy m.y t <ℤ high)

-- at tick t the place is to the left of the edge that goes up from the one end to the other
abbrev pub IsLeft : Motion → ℤ × ℤ → ℤ × ℤ → ℤ → Type 0
IsLeft m low high t = ((line_at m.vx m.x t -ℤ low.0) *ℤ (high.1 -ℤ low.1)) <ℤ ((high.0 -ℤ low.0) *ℤ (line_at m.vy m.y t -ℤ low.1))

-- the edge counts at the place of tick t
abbrev pub CountsAt : Motion → (ℤ × ℤ) × (ℤ × ℤ) → ℤ → Type 0
CountsAt m edge t = IsTrue (counts (line_at m.vx m.x t) (line_at m.vy m.y t) edge)

-- at each tick of 0..=l as many of the sets have it as edges count
abbrev pub AreCounted : List ((ℤ × ℤ) × (ℤ × ℤ)) → Motion → ℤ → List Ticks → Type 0
AreCounted of m l sets = (t : ℤ) → pos 0 ≤ℤ t → t ≤ℤ l → sets_with sets t ≡ crossings of (line_at m.vx m.x t) (line_at m.vy m.y t)
