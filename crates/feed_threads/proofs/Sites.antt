-- What the stages of a cycle rely on of an accepted site.
use Rattle.std.proofs.Common.{◌≡◌, ◌^◌, ◌≤◌, ℤ, pos, ◌≤ℤ◌, [], None, arith, w32, w64, to_z, of_z}
use Rattle.std.specs.Int.RustNames.{unsigned_abs}
use Rattle.std.proofs.lemmas.Int.{fits_signed_from_abs, ints, to_z-of_z}
use Rattle.site_types.specs.declared.site.Site.{Site}
use Rattle.site_types.specs.Ranges.{IsSite}
use Rattle.track_table.specs.Held.{Held}
use Rattle.feed_threads.specs.Rows.{IsTimed}

pub timed : (site : Site) → IsSite site → IsTimed site
timed site is =
    let start = is.start in
    let period = is.period in
    let timeout = is.timeout in
    let qnh = is.qnh in
    record {
      start_low = omega (arith, ints, start.low);
      start_high = omega (arith, ints, start.high);
      period_low = omega (arith, ints, period.low);
      period_high = omega (arith, ints, period.high);
      timeout_low = omega (arith, ints, timeout.low);
      timeout_high = omega (arith, ints, timeout.high);
      qnh = omega (arith, ints, qnh.low, qnh.high);
    }

pub period_low : (site : Site) → IsTimed site → pos 0 ≤ℤ site.period
period_low site is =
    let some = is.period_low in
    omega (arith, ints)

-- the times in 64 bits
as_is : (z : ℤ) → unsigned_abs z ≤ 2 ^ 62 → to_z w64 (of_z w64 z) ≡ z
as_is z small = to_z-of_z w64 z (fits_signed_from_abs w64 z (omega arith))

pub start_is : (site : Site) → IsTimed site → to_z w64 (of_z w64 site.start) ≡ site.start
start_is site is =
    let low = is.start_low in
    let high = is.start_high in
    as_is site.start (omega (arith, ints))

pub period_is : (site : Site) → IsTimed site → to_z w64 (of_z w64 site.period) ≡ site.period
period_is site is =
    let low = is.period_low in
    let high = is.period_high in
    as_is site.period (omega (arith, ints))

pub timeout_is : (site : Site) → IsTimed site → to_z w64 (of_z w64 site.timeout) ≡ site.timeout
timeout_is site is =
    let low = is.timeout_low in
    let high = is.timeout_high in
    as_is site.timeout (omega (arith, ints))

-- a table of these times is one of the site
pub fresh_held : (site : Site) (held : Held) → IsTimed site →
    held ≡ record { start = to_z w64 (of_z w64 site.start); period = to_z w64 (of_z w64 site.period); timeout = to_z w64 (of_z w64 site.timeout); frozen = None; kept = [] } →
    held ≡ record { start = site.start; period = site.period; timeout = site.timeout; frozen = None; kept = [] }
fresh_held site held timed is = rw (start_is site timed, period_is site timed, timeout_is site timed) at is

-- a correction in 32 bits
pub correction_is : (site : Site) → IsTimed site → to_z w32 (of_z w32 site.qnh) ≡ site.qnh
correction_is site of =
    let small = of.qnh in
    to_z-of_z w32 site.qnh (fits_signed_from_abs w32 site.qnh (omega arith))
