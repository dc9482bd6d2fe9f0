-- The course of a track on an approach, as it changes evenly each tick (this project's profile: exact in whole numbers).
use Rattle.std.specs.Prelude.{◌^◌, ◌≤◌, unsigned_abs, ℤ, ◌<ℤ◌}
use Rattle.tick_sets.specs.Inequalities.{line_at}
use Rattle.site_types.specs.declared.funnel.Funnel.{Funnel}
use Rattle.track_motion.specs.declared.motion.Motion.{Motion}
use Rattle.approach_funnel.specs.declared.course.Course.{Course}
use Rattle.approach_funnel.specs.Apm.{beside, side_at}
use Rattle.approach_funnel.specs.Approaches.{distance, offset}
use Rattle.approach_funnel.specs.Lines.{Changes}

-- a vector short enough to be one from the threshold
pub record IsVector (x y : ℤ) : Type 0 where
  pub x_range : unsigned_abs x ≤ 2 ^ 33
  pub y_range : unsigned_abs y ≤ 2 ^ 33

-- at a tick a track is beside the funnel, where its distance d and its offset c change so much each tick
abbrev pub IsBesideAt : Funnel → ℤ → ℤ → ℤ → ℤ → ℤ → Type 0
IsBesideAt f d d_change c c_change t = side_at f f.half f.side (line_at d_change d t) <ℤ beside (line_at c_change c t)

-- the distance and the offset of a track, as they change each tick
pub record IsCourse (f : Funnel) (m : Motion) (course : Course) : Type 0 where
  pub distance : Changes (distance f m) course.distance.start course.distance.change
  pub offset : Changes (offset f m) course.offset.start course.offset.change
