-- The first tick at which a track deviates from an approach in each of the four ways (this project's profile).
use Rattle.std.specs.Prelude.{◌≡◌, ℕ, Bool, ◌&&◌, find, Option, None, Some, option_map, ℤ, pos}
use Rattle.std.specs.Int.{int_min}
use Rattle.tick_sets.specs.Searches.{ticks_to}
use Rattle.site_types.specs.declared.funnel.Funnel.{Funnel}
use Rattle.track_motion.specs.declared.motion.Motion.{Motion}
use Rattle.approach_funnel.specs.declared.firsts.Firsts.{Firsts}
use Rattle.approach_funnel.specs.Apm.{is_above, is_before, is_below, is_left, is_right}

-- the first tick of the look-ahead before the threshold at which a test passes
abbrev pub first_before : Funnel → Motion → (ℤ → Bool) → ℕ → Option ℤ
first_before f m test look = option_map pos (find (λ t. is_before f m (pos t) && test (pos t)) (ticks_to look))

pub record AreFirsts (f : Funnel) (m : Motion) (look : ℕ) (firsts : Firsts) : Type 0 where
  pub below : firsts.below ≡ first_before f m (is_below f m) look
  pub above : firsts.above ≡ first_before f m (is_above f m) look
  pub left : firsts.left ≡ first_before f m (is_left f m) look
  pub right : firsts.right ≡ first_before f m (is_right f m) look

-- the lesser of two ticks, or the one that is there
abbrev pub earlier_of : Option ℤ → Option ℤ → Option ℤ
earlier_of None b = b
earlier_of (Some a) None = Some a
earlier_of (Some a) (Some b) = Some (int_min a b)

-- the least of the four
abbrev pub least_of : Firsts → Option ℤ
least_of firsts = earlier_of (earlier_of firsts.below firsts.above) (earlier_of firsts.left firsts.right)
