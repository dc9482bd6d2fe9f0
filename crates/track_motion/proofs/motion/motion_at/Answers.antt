use Rattle.std.proofs.Common.{◌≡◌, pos, ℤ, ◌-ℤ◌, Option, Some, None, w16, w32, w64, FitsSigned, arith, rules}
use Rattle.std.proofs.lemmas.Int.{to_z-of_z, fits_signed_from_abs, ints}
use Rattle.std.specs.Int.RustNames.{unsigned_abs}
use Rattle.std.specs.Option.{option_map, option_and_then}
use Rattle.track_motion.specs.declared.motion.TheConstants.{LENGTH_UNITS_PER_HALF_METRE, HEIGHT_UNITS_PER_25_FEET}
use Rattle.track_motion.specs.declared.motion.Motion.{Motion}
use Rattle.track_motion.specs.declared.track.Track.{Track}
use Rattle.track_motion.specs.Motions.{motion_of, moved_on}
use Rattle.track_motion.proofs.motion.motion_at.Goals as goal

abbrev heights : Track → ℤ → Option ℤ → Option ℤ
heights track age told = option_map (λ z. moved_on HEIGHT_UNITS_PER_25_FEET z track.rate age) told

abbrev moving : Track → ℤ → ℤ → ℤ → Motion
moving track age z alt = record {
  x = moved_on LENGTH_UNITS_PER_HALF_METRE track.x track.vx age;
  y = moved_on LENGTH_UNITS_PER_HALF_METRE track.y track.vy age;
  vx = track.vx;
  vy = track.vy;
  z = z;
  alt = alt;
  vz = track.rate;
}

-- with both heights there the motion is as it is told
both_told : (track : Track) (age z alt : ℤ) (level altitude : Option ℤ) → Some z ≡ heights track age level → Some alt ≡ heights track age altitude →
    Some (moving track age z alt) ≡ option_and_then (λ l. option_map (λ a. motion_of track age l a) altitude) level
both_told track age z alt None altitude at_z at_alt = absurd (cc)
both_told track age z alt (Some l) None at_z at_alt = absurd (cc)
both_told track age z alt (Some l) (Some a) at_z at_alt = cc

pub returns-clause-motion : goal.returns-clause-motion
returns-clause-motion c =
    let s = c.args.s.now in
    let told : FitsSigned w64 s.at = search rules in
    let time = c.ranges.time in
    let later = c.requires.later in
    let recent = c.requires.recent in
    let fits_age : FitsSigned w64 (c.args.time -ℤ s.at) = fits_signed_from_abs w64 _ (omega (arith, ints)) in
    let age : pos (unsigned_abs (c.args.time -ℤ s.at)) ≡ c.args.time -ℤ s.at = omega (arith, ints) in
    let x : FitsSigned w32 s.track.x = search rules in
    let y : FitsSigned w32 s.track.y = search rules in
    let vx : FitsSigned w16 s.track.vx = search rules in
    let vy : FitsSigned w16 s.track.vy = search rules in
    let rate : FitsSigned w16 s.track.rate = search rules in
    let fx : FitsSigned w64 c.moved.result = search rules in
    let fy : FitsSigned w64 c.moved-2.result = search rules in
    let fz : FitsSigned w64 c.in_ok-z.z = search rules in
    let fa : FitsSigned w64 c.in_ok-alt.alt = search rules in
    let fvx : FitsSigned w64 c.from.result = search rules in
    let fvy : FitsSigned w64 c.from-2.result = search rules in
    let fvz : FitsSigned w64 c.from-3.result = search rules in
    let at_x = rw age at (simp to_z-of_z at c.moved.ensures.place) in
    let at_y = rw age at (simp to_z-of_z at c.moved-2.ensures.place) in
    let at_z : Some c.in_ok-z.z ≡ heights s.track (c.args.time -ℤ s.at) s.track.level = rw age at (simp to_z-of_z at c.in_ok-z.ensures.height) in
    let at_alt : Some c.in_ok-alt.alt ≡ heights s.track (c.args.time -ℤ s.at) s.track.altitude = rw age at (simp to_z-of_z at c.in_ok-alt.ensures.height) in
    let at_vx = simp to_z-of_z at c.from.ensures in
    let at_vy = simp to_z-of_z at c.from-2.ensures in
    let at_vz = simp to_z-of_z at c.from-3.ensures in
    let both = both_told s.track (c.args.time -ℤ s.at) c.in_ok-z.z c.in_ok-alt.alt s.track.level s.track.altitude at_z at_alt in
    simp to_z-of_z (cc)

pub returns-clause-range : goal.returns-clause-range
returns-clause-range c =
    let place = c.requires.place in
    let level = c.in_ok-z.ensures.bound c.requires.level.level in
    let altitude = c.in_ok-alt.ensures.bound c.requires.level.altitude in
    record {
      x = (let b = c.moved.ensures.bound in omega (arith, ints));
      y = (let b = c.moved-2.ensures.bound in omega (arith, ints));
      z = omega (arith, ints);
      alt = omega (arith, ints);
      vx = (let e = c.from.ensures in omega (arith, ints));
      vy = (let e = c.from-2.ensures in omega (arith, ints));
      vz = (let e = c.from-3.ensures in omega (arith, ints));
    }
