-- How long a track stays in a band of places along an axis.
use Rattle.std.proofs.Common.{◌≡◌, ℤ, pos, ◌+ℤ◌, ◌-ℤ◌, ◌*ℤ◌, ◌≤ℤ◌, ◌<ℤ◌, arith}
use Rattle.std.proofs.lemmas.Int.{ints, by_lt_z, clamps}
use Rattle.std.specs.Int.{int_min}
use Rattle.tick_sets.specs.Steps.{IsFraction, IsQuotient}
use Rattle.terrain_cells.specs.Stays.{IsBandOf, IsIn, IsLastIn, IsStay, place_at}
use Rattle.terrain_cells.specs.declared.axis.Axis.{Axis}
use Rattle.terrain_cells.specs.declared.axis.Band.{Band}
use Rattle.terrain_cells.proofs.Products.{minus_times, times_ge, times_le}

-- what is divided to find the last tick, towards the high end and towards the low one
pub rising_fraction : (axis : Axis) (band : Band) (tick : ℤ) → pos 0 <ℤ axis.speed → pos 0 ≤ℤ tick → IsIn band (place_at axis tick) → IsFraction (band.high -ℤ pos 1 -ℤ axis.place) axis.speed
rising_fraction axis band tick up low has =
    let h = times_le axis.speed (pos 0) tick (omega (arith, ints)) low in
    let before = has.before in
    record { dividend_low = omega (arith, ints); divisor_low = up }

pub falling_fraction : (axis : Axis) (band : Band) (tick : ℤ) → axis.speed <ℤ pos 0 → pos 0 ≤ℤ tick → IsIn band (place_at axis tick) → IsFraction (axis.place -ℤ band.low) (pos 0 -ℤ axis.speed)
falling_fraction axis band tick down low has =
    let h = times_ge axis.speed (pos 0) tick (omega (arith, ints)) low in
    let from = has.from in
    record { dividend_low = omega (arith, ints); divisor_low = omega (arith, ints) }

-- the last tick, towards the high end
pub last_rising : (axis : Axis) (band : Band) (tick look q last : ℤ) → pos 0 <ℤ axis.speed → tick ≤ℤ look → IsIn band (place_at axis tick) → IsQuotient (band.high -ℤ pos 1 -ℤ axis.place) axis.speed q → last ≡ int_min q look → IsLastIn axis band tick look last
last_rising axis band tick look q last up order has quotient is_last =
    let from = has.from in
    let before = has.before in
    let at_q = quotient.at_most in
    let after_q = quotient.next_above in
    let inside : tick ≤ℤ q = by_lt_z q tick
    (λ early. let h = times_le axis.speed (q +ℤ pos 1) tick (omega (arith, ints)) (omega (arith, ints)) in absurd (omega (arith, ints)))
    (λ late. late) in
    let last_q : last ≤ℤ q = omega (arith, ints, clamps) in
    record {
      not_before = omega (arith, ints, clamps);
      not_after = omega (arith, ints, clamps);
      stays = λ t low high. record {
        from = (let h = times_le axis.speed tick t (omega (arith, ints)) low in omega (arith, ints));
        before = (let h = times_le axis.speed t q (omega (arith, ints)) (omega (arith, ints)) in omega (arith, ints));
      };
      leaves = λ more still.
          let same : last ≡ q = omega (arith, ints, clamps) in
          let end = rw same at still.before in
          absurd (omega (arith, ints));
    }

-- the last tick, towards the low end
pub last_falling : (axis : Axis) (band : Band) (tick look q last : ℤ) → axis.speed <ℤ pos 0 → tick ≤ℤ look → IsIn band (place_at axis tick) → IsQuotient (axis.place -ℤ band.low) (pos 0 -ℤ axis.speed) q → last ≡ int_min q look → IsLastIn axis band tick look last
last_falling axis band tick look q last down order has quotient is_last =
    let from = has.from in
    let before = has.before in
    let at_q = rw (minus_times axis.speed q) at quotient.at_most in
    let after_q = rw (minus_times axis.speed (q +ℤ pos 1)) at quotient.next_above in
    let inside : tick ≤ℤ q = by_lt_z q tick
    (λ early. let h = times_ge axis.speed (q +ℤ pos 1) tick (omega (arith, ints)) (omega (arith, ints)) in absurd (omega (arith, ints)))
    (λ late. late) in
    let last_q : last ≤ℤ q = omega (arith, ints, clamps) in
    record {
      not_before = omega (arith, ints, clamps);
      not_after = omega (arith, ints, clamps);
      stays = λ t low high. record {
        from = (let h = times_ge axis.speed t q (omega (arith, ints)) (omega (arith, ints)) in omega (arith, ints));
        before = (let h = times_ge axis.speed tick t (omega (arith, ints)) low in omega (arith, ints));
      };
      leaves = λ more still.
          let same : last ≡ q = omega (arith, ints, clamps) in
          let end = rw same at still.from in
          absurd (omega (arith, ints));
    }

-- at rest
resting : (u p t : ℤ) → u ≡ pos 0 → u *ℤ t +ℤ p ≡ p
resting u p t rest = rw rest (omega (arith, ints))

pub last_resting : (axis : Axis) (band : Band) (tick look : ℤ) → axis.speed ≡ pos 0 → tick ≤ℤ look → IsIn band (place_at axis tick) → IsLastIn axis band tick look look
last_resting axis band tick look rest order has =
    let now = rw (resting axis.speed axis.place tick rest) at has in
    record {
      not_before = order;
      not_after = omega (arith, ints);
      stays = λ t low high. rw (resting axis.speed axis.place t rest) now;
      leaves = λ more still. absurd (omega (arith, ints));
    }

-- the stay in a band
pub stay_in : (axis : Axis) (band : Band) (place from look last : ℤ) → IsBandOf axis place band → IsLastIn axis band from look last → IsStay axis from look (record { index = band.index; last = last })
stay_in axis band place from look last is_band is_last = record {
  not_before = is_last.not_before;
  kept = record {
    not_after = is_last.not_after;
    same = λ t low high. is_band.same (place_at axis t) (is_last.stays t low high);
  };
}
