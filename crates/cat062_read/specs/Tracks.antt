-- The track that a record tells of (the contents are those of ASTERIX part 9; what is taken and what counts where it is absent is this project's profile).
use Rattle.std.specs.Prelude.{◌%◌, ◌≤◌, Bool, ◌&&◌, ◌||◌, Option, Some, None, is_some, unwrap_or, IfSome, pos, ◌+ℤ◌, if◌then◌else◌}
use Rattle.std.proofs.Common.{ℤ, ◌-ℤ◌}
use Rattle.std.specs.Option.{option_map}
use Rattle.std.specs.Int.RustNames.{unsigned_abs}
use Rattle.track_motion.specs.declared.track.TheConstants.{TICKS_PER_DAY}
use Rattle.track_motion.specs.declared.track.Track.{Track}
pub use Rattle.track_motion.specs.Tracks.{IsInPlane, IsLevelled}
use Rattle.cat062_read.specs.declared.record.Raw062.{Raw062}

-- it says whose it is, which track and when, and where, or that it is the track's last message
abbrev pub is_usable : Raw062 → Bool
is_usable raw = is_some raw.source && is_some raw.number && is_some raw.time && (is_some raw.xy || raw.ended)

-- the flight level, else the barometric altitude without its QNH correction
abbrev pub level_of : Option ℤ → Option (Bool × ℤ) → ℤ → Option ℤ
level_of (Some level) baro qnh = Some level
level_of None baro qnh = option_map (λ b. if b.0 then (b.1 -ℤ qnh) else b.1) baro

-- the corrected barometric altitude, else the level with the correction
abbrev pub altitude_of : Option ℤ → Option (Bool × ℤ) → ℤ → Option ℤ
altitude_of level None qnh = option_map (λ z. z +ℤ qnh) (level_of level None qnh)
altitude_of level (Some b) qnh = if b.0 then Some b.1 else option_map (λ z. z +ℤ qnh) (level_of level (Some b) qnh)

-- the track of a usable record
abbrev pub track_from : Raw062 → ℤ → Track
track_from raw qnh = record {
  key = record {
    sac = (unwrap_or raw.source (0, 0)).0;
    sic = (unwrap_or raw.source (0, 0)).1;
    number = unwrap_or raw.number 0;
  };
  time = unwrap_or raw.time 0 % TICKS_PER_DAY;
  x = (unwrap_or raw.xy (pos 0, pos 0)).0;
  y = (unwrap_or raw.xy (pos 0, pos 0)).1;
  vx = (unwrap_or raw.speed (pos 0, pos 0)).0;
  vy = (unwrap_or raw.speed (pos 0, pos 0)).1;
  level = level_of raw.flight_level raw.baro qnh;
  altitude = altitude_of raw.flight_level raw.baro qnh;
  rate = unwrap_or raw.rate (pos 0);
  code = raw.code;
  tentative = raw.tentative;
  simulated = raw.simulated;
  ended = raw.ended;
}

-- the track that a record tells of, if it is usable
abbrev pub track_of : Raw062 → ℤ → Option Track
track_of raw qnh = if is_usable raw then Some (track_from raw qnh) else None

-- the position of a record, where it has one, is in the plane
abbrev pub IsPlaced : Raw062 → Type 0
IsPlaced raw = IfSome raw.xy (λ xy. IsInPlane xy.0 xy.1)

-- a site's QNH correction is within 200 of 0
abbrev pub IsQnh : ℤ → Type 0
IsQnh qnh = unsigned_abs qnh ≤ 200
