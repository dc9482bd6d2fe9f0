-- What the stages of a cycle rely on of a site, and how a table takes records (the ranges are this project's profile).
use Rattle.std.specs.Prelude.{◌≡◌, ◌≤◌, ◌++◌, List, pos, ◌≤ℤ◌, ◌<ℤ◌, unsigned_abs}
use Rattle.site_types.specs.declared.site.Site.{Site}
use Rattle.track_motion.specs.declared.motion.TheConstants.{LONGEST_AGE}
use Rattle.track_motion.specs.declared.rank.Stamped.{Stamped}
use Rattle.track_table.specs.Held.{Held}
use Rattle.track_table.specs.Kept.{StandsFor}
use Rattle.track_table.specs.Times.{day}

-- a site's times and correction
pub record IsTimed (site : Site) : Type 0 where
  pub start_low : pos 0 ≤ℤ site.start
  pub start_high : site.start <ℤ day
  pub period_low : pos 1 ≤ℤ site.period
  pub period_high : site.period ≤ℤ pos LONGEST_AGE
  pub timeout_low : pos 1 ≤ℤ site.timeout
  pub timeout_high : site.timeout ≤ℤ pos LONGEST_AGE
  pub qnh : unsigned_abs site.qnh ≤ 200

-- a table with more records put into it
pub record Puts (old new : Held) (stamps : List Stamped) : Type 0 where
  pub stands : (puts : List Stamped) → StandsFor old puts → StandsFor new (puts ++ stamps)
  pub others : new ≡ record old { kept = new.kept }
