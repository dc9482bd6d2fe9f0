-- When a place is inside a polygon, and when a moving track is: where an odd number of the polygon's edges count (this project's profile).
use Rattle.std.specs.Prelude.{ℕ, ◌%◌, ◌==◌, Bool, ◌&&◌, ◌||◌, IsTrue, int_le, int_lt, List, ◌++◌, take, drop, count_by, zip, ℤ, ◌-ℤ◌, ◌*ℤ◌}
use Rattle.tick_sets.specs.Inequalities.{line_at}
use Rattle.track_motion.specs.declared.motion.Motion.{Motion}

-- from each point to the next, and from the last to the first
abbrev pub edges : List (ℤ × ℤ) → List ((ℤ × ℤ) × (ℤ × ℤ))
edges points = zip points (drop 1 points ++ take 1 points)

-- y is at or above the lower end and below the upper one, and at that height (x, y) is to the left of the edge
abbrev pub counts_upward : ℤ → ℤ → ℤ × ℤ → ℤ × ℤ → Bool
counts_upward x y low high = int_le low.1 y && int_lt y high.1 && int_lt ((x -ℤ low.0) *ℤ (high.1 -ℤ low.1)) ((high.0 -ℤ low.0) *ℤ (y -ℤ low.1))

-- the same, whichever end is the lower one; a level edge never counts
abbrev pub counts : ℤ → ℤ → (ℤ × ℤ) × (ℤ × ℤ) → Bool
counts x y edge = counts_upward x y edge.0 edge.1 || counts_upward x y edge.1 edge.0

-- how many edges count
abbrev pub crossings : List ((ℤ × ℤ) × (ℤ × ℤ)) → ℤ → ℤ → ℕ
crossings of x y = count_by (counts x y) of

-- (x, y) is inside the polygon of these points
abbrev pub inside : List (ℤ × ℤ) → ℤ → ℤ → Bool
inside points x y = crossings (edges points) x y % 2 == 1

-- so is the place of a motion at tick t
abbrev pub inside_at : List (ℤ × ℤ) → Motion → ℤ → Bool
inside_at points m t = inside points (line_at m.vx m.x t) (line_at m.vy m.y t)

abbrev pub IsInsideAt : List (ℤ × ℤ) → Motion → ℤ → Type 0
IsInsideAt points m t = IsTrue (inside_at points m t)
