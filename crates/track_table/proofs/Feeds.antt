-- The times and windows of a feed.
use Rattle.std.proofs.Common.{◌≡◌, ℕ, zero, suc, ◌+◌, ◌*◌, ◌/◌, ◌<◌, ◌≤◌, List, [], ◌∷◌, ◌++◌, length, get_or, ℤ, pos, negsuc, neg_ℤ, ◌+ℤ◌, ◌-ℤ◌, ◌*ℤ◌, ◌≤ℤ◌, ◌<ℤ◌, ap, ◌∙◌, arith}
use Rattle.std.specs.Prelude.{fold}
use Rattle.std.specs.List.{All, AllByRecursion}
use Rattle.std.specs.List.Sorted.{IsNonDecreasingBy}
use Rattle.std.specs.Int.{int_max, int_rem_euclid}
use Rattle.std.specs.Int.RustNames.{unsigned_abs}
use Rattle.std.proofs.Math.Nat.{lt-mul-div-succ, mul-div-le}
use Rattle.std.proofs.lemmas.Nat.{le-div}
use Rattle.std.proofs.lemmas.Int.{clamps, ints}
use Rattle.std.proofs.lemmas.List.Elements.{All-from_recursion}
use Rattle.track_motion.specs.declared.rank.Stamped.{Stamped}
use Rattle.track_motion.specs.declared.track.Track.{Track}
use Rattle.track_table.specs.Stamps.{Clock, clock_after, latest_with, stamp_of, stamps_from}
use Rattle.track_table.specs.Times.{IsNear, at_near, cycle_time, day, half_day, window_of}

-- ---- near times

-- what is left of a number is whole days from it
pub record IsLeft (z left : ℤ) : Type 0 where
  pub low : pos 0 ≤ℤ left
  pub high : left <ℤ day
  pub days : ℤ
  pub same : left ≡ z +ℤ days *ℤ day

pub left_is : (z : ℤ) → IsLeft z (int_rem_euclid z day)
left_is (pos a) = record { low = omega (arith, ints); high = omega (arith, ints); days = neg_ℤ (pos (a / 11059200)); same = omega (arith, ints) }
left_is (negsuc a) = record { low = omega (arith, ints); high = omega (arith, ints); days = pos (a / 11059200 + 1); same = omega (arith, ints) }

pub near_is : (present : ℤ) (time : ℕ) → IsNear present time (at_near present time)
near_is present time =
    let left = left_is (pos time -ℤ (present -ℤ half_day)) in
    let low = left.low in
    let high = left.high in
    let same = left.same in
    record { low = omega (arith, ints); high = omega (arith, ints); days = left.days; same = omega (arith, ints) }

-- ---- stamps one by one

one_more : (place n : ℕ) → place + 1 + n ≡ place + suc n
one_more place n = omega arith

no_more : (place : ℕ) → place ≡ place + 0
no_more place = omega arith

pub stamps_push : (clock : Clock) (feed place : ℕ) (tracks : List Track) (track : Track) →
    stamps_from clock feed place (tracks ++ track ∷ []) ≡ stamps_from clock feed place tracks ++ stamp_of (fold clock_after clock tracks) feed (place + length tracks) track ∷ []
stamps_push clock feed place [] track = ap (λ n. stamp_of clock feed n track ∷ []) (no_more place)
stamps_push clock feed place (t ∷ ts) track =
    ap (λ ss. stamp_of clock feed place t ∷ ss)
    (stamps_push (clock_after clock t) feed (place + 1) ts track
    ∙ ap (λ n. stamps_from (clock_after clock t) feed (place + 1) ts ++ stamp_of (fold clock_after (clock_after clock t) ts) feed n track ∷ []) (one_more place (length ts)))

-- ---- how far a clock comes

pub record IsStep (latest next : ℤ) : Type 0 where
  pub low : latest ≤ℤ next
  pub high : next ≤ℤ (latest +ℤ half_day)

pub step_is : (latest : ℤ) (time : ℕ) → IsStep latest (int_max latest (at_near latest time))
step_is latest time =
    let near = near_is latest time in
    let high = near.high in
    record { low = omega (arith, ints, clamps); high = omega (arith, ints, clamps) }

pub never_back : (clock : Clock) (tracks : List Track) → clock.latest ≤ℤ (fold clock_after clock tracks).latest
never_back clock [] = omega (arith, ints)
never_back clock (t ∷ ts) =
    let step = step_is clock.latest t.time in
    let low = step.low in
    let rest = never_back (clock_after clock t) ts in
    omega (arith, ints)

further : (a b c : ℤ) (n : ℕ) → a ≤ℤ (b +ℤ half_day) → c ≤ℤ (a +ℤ pos n *ℤ half_day) → c ≤ℤ (b +ℤ pos (suc n) *ℤ half_day)
further a b c n one more = omega (arith, ints)

no_way : (a : ℤ) → a ≤ℤ (a +ℤ pos 0 *ℤ half_day)
no_way a = omega (arith, ints)

pub half_a_day_each : (clock : Clock) (tracks : List Track) → (fold clock_after clock tracks).latest ≤ℤ (clock.latest +ℤ pos (length tracks) *ℤ half_day)
half_a_day_each clock [] = no_way clock.latest
half_a_day_each clock (t ∷ ts) =
    let step = step_is clock.latest t.time in
    further (latest_with clock t) clock.latest _ (length ts) step.high (half_a_day_each (clock_after clock t) ts)

-- ---- windows

pub record IsBegun (clock : Clock) : Type 0 where
  pub some : pos 1 ≤ℤ clock.period
  pub begun : clock.start ≤ℤ clock.latest

begun_after : (clock : Clock) (track : Track) → IsBegun clock → IsBegun (clock_after clock track)
begun_after clock track is =
    let step = step_is clock.latest track.time in
    let low = step.low in
    let begun = is.begun in
    record { some = is.some; begun = omega (arith, ints) }

quotient_rises : (m n k : ℕ) → 0 < k → m ≤ n → m / k ≤ n / k
quotient_rises m n k some rises = let part = mul-div-le m k in le-div (m / k) n k some (omega arith)

window_rises : (start period one other : ℤ) → pos 1 ≤ℤ period → start ≤ℤ one → one ≤ℤ other → window_of start period one ≤ window_of start period other
window_rises start period one other some begun rises =
    quotient_rises (unsigned_abs (one -ℤ start)) (unsigned_abs (other -ℤ start)) (unsigned_abs period) (omega (arith, ints)) (omega (arith, ints))

inside_at : (start period time : ℤ) (n p w : ℕ) → time ≡ start +ℤ pos n → period ≡ pos p → n < p * (w + 1) → time <ℤ cycle_time start period w
inside_at start period time n p w at is below =
    let product : pos (w + 1) *ℤ pos p ≡ pos (p * (w + 1)) = omega (arith, ints) in
    rw (is, product) (omega (arith, ints))

window_holds : (start period time : ℤ) → pos 1 ≤ℤ period → start ≤ℤ time → time <ℤ cycle_time start period (window_of start period time)
window_holds start period time some begun =
    let n = unsigned_abs (time -ℤ start) in
    let p = unsigned_abs period in
    inside_at start period time n p (n / p) (omega (arith, ints)) (omega (arith, ints)) (lt-mul-div-succ n (omega (arith, ints)))

at_least : (clock : Clock) (feed place w : ℕ) (tracks : List Track) → IsBegun clock → w ≤ window_of clock.start clock.period clock.latest → AllByRecursion (λ s. w ≤ s.window) (stamps_from clock feed place tracks)
at_least clock feed place w [] is low = tt
at_least clock feed place w (t ∷ ts) is low =
    let step = step_is clock.latest t.time in
    let rises = window_rises clock.start clock.period clock.latest (latest_with clock t) is.some is.begun step.low in
    let above : w ≤ window_of clock.start clock.period (latest_with clock t) = omega arith in
    (above, at_least (clock_after clock t) feed (place + 1) w ts (begun_after clock t is) above)

rises_at : (s : Stamped) (ss : List Stamped) → All (λ r. s.window ≤ r.window) ss → IsNonDecreasingBy (λ r. r.window) ss → (i j : ℕ) (d : Stamped) → i ≤ j → j < suc (length ss) →
    (get_or (s ∷ ss) i d).window ≤ (get_or (s ∷ ss) j d).window
rises_at s ss above rises zero zero d order within = omega arith
rises_at s ss above rises zero (suc j) d order within = above j d (omega arith)
rises_at s ss above rises (suc i) zero d order within = absurd (omega arith)
rises_at s ss above rises (suc i) (suc j) d order within = rises i j d (omega arith) (omega arith)

rises_cons : (s : Stamped) (ss : List Stamped) → AllByRecursion (λ r. s.window ≤ r.window) ss → IsNonDecreasingBy (λ r. r.window) ss → IsNonDecreasingBy (λ r. r.window) (s ∷ ss)
rises_cons s ss above rises = rises_at s ss (All-from_recursion (λ (r : Stamped). s.window ≤ r.window) ss above) rises

pub windows_rise : (clock : Clock) (feed place : ℕ) (tracks : List Track) → IsBegun clock → IsNonDecreasingBy (λ s. s.window) (stamps_from clock feed place tracks)
windows_rise clock feed place [] is = λ i j d order within. absurd (omega arith)
windows_rise clock feed place (t ∷ ts) is =
    let begun = begun_after clock t is in
    rises_cons (stamp_of clock feed place t) (stamps_from (clock_after clock t) feed (place + 1) ts)
    (at_least (clock_after clock t) feed (place + 1) (window_of clock.start clock.period (latest_with clock t)) ts begun (omega arith))
    (windows_rise (clock_after clock t) feed (place + 1) ts begun)

below : (a b c : ℤ) → a ≤ℤ b → b <ℤ c → a <ℤ c
below a b c one other = omega (arith, ints)

told_inside : (clock : Clock) (track : Track) → IsBegun clock → at_near clock.latest track.time <ℤ cycle_time clock.start clock.period (window_of clock.start clock.period (latest_with clock track))
told_inside clock track is =
    let begun = (begun_after clock track is).begun in
    let holds = window_holds clock.start clock.period (latest_with clock track) is.some begun in
    let latest : at_near clock.latest track.time ≤ℤ latest_with clock track = omega (arith, ints, clamps) in
    below (at_near clock.latest track.time) (latest_with clock track) _ latest holds

pub windows_hold : (clock : Clock) (feed place : ℕ) (tracks : List Track) → IsBegun clock →
    AllByRecursion (λ s. s.at <ℤ cycle_time clock.start clock.period s.window) (stamps_from clock feed place tracks)
windows_hold clock feed place [] is = tt
windows_hold clock feed place (t ∷ ts) is = (told_inside clock t is, windows_hold (clock_after clock t) feed (place + 1) ts (begun_after clock t is))
