-- Where a track is on an approach: how far before the threshold, and how far beside the centre line (this project's
-- profile: exact in whole numbers). Both are in length units times the length of the landing direction, which is a
-- vector of any length.
use Rattle.std.specs.Prelude.{unsigned_abs, ℤ, pos, ◌-ℤ◌, ◌*ℤ◌, neg_ℤ}
use Rattle.tick_sets.specs.Inequalities.{line_at}
use Rattle.tick_sets.specs.Plane.{scalar_product, squared_length}
use Rattle.tick_sets.specs.Roots.{root}
use Rattle.site_types.specs.declared.funnel.Funnel.{Funnel}
use Rattle.track_motion.specs.declared.motion.Motion.{Motion}

-- the length of the landing direction, rounded down
abbrev pub length_of : Funnel → ℤ
length_of f = pos (root (unsigned_abs (squared_length f.dx f.dy)))

-- a vector along the landing direction, and across it, to the right
abbrev pub along : Funnel → ℤ → ℤ → ℤ
along f x y = scalar_product x y f.dx f.dy

abbrev pub across : Funnel → ℤ → ℤ → ℤ
across f x y = x *ℤ f.dy -ℤ y *ℤ f.dx

-- where the track is from the threshold at a tick, along each axis
abbrev pub x_from : Funnel → Motion → ℤ → ℤ
x_from f m t = line_at m.vx m.x t -ℤ f.x

abbrev pub y_from : Funnel → Motion → ℤ → ℤ
y_from f m t = line_at m.vy m.y t -ℤ f.y

-- how far before the threshold it is at a tick
abbrev pub distance : Funnel → Motion → ℤ → ℤ
distance f m t = neg_ℤ (along f (x_from f m t) (y_from f m t))

-- how far to the right of the centre line it is at a tick, seen in the landing direction
abbrev pub offset : Funnel → Motion → ℤ → ℤ
offset f m t = across f (x_from f m t) (y_from f m t)

-- its altitude at a tick
abbrev pub altitude : Motion → ℤ → ℤ
altitude m t = line_at m.vz m.alt t
