-- Where a track can be (what a record of ASTERIX part 9 can say, and this project's profile).
use Rattle.std.specs.Prelude.{◌≡◌, ◌^◌, ◌≤◌, is_some, IfSome, unsigned_abs, ℤ}
use Rattle.track_motion.specs.declared.track.Track.{Track}

-- a position within the 24 bits in which it is told
abbrev pub IsInPlane : ℤ → ℤ → Type 0
IsInPlane x y = (unsigned_abs x ≤ 2 ^ 23) × (unsigned_abs y ≤ 2 ^ 23)

-- a level or an altitude is within 40,000 of 0
abbrev pub IsHeight : ℤ → Type 0
IsHeight z = unsigned_abs z ≤ 40000

-- the level and the altitude of a track are such, and the one is there exactly where the other is
pub record IsLevelled (track : Track) : Type 0 where
  pub level : IfSome track.level IsHeight
  pub altitude : IfSome track.altitude IsHeight
  pub both : is_some track.level ≡ is_some track.altitude
