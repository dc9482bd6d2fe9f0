-- A feed's times stay within those that leave room to add.
use Rattle.std.proofs.Common.{◌≡◌, ℕ, ◌+◌, ◌*◌, ◌/◌, ◌<◌, ◌≤◌, List, [], ◌∷◌, length, ℤ, pos, ◌+ℤ◌, ◌-ℤ◌, ◌*ℤ◌, ◌≤ℤ◌, ◌<ℤ◌, refl, arith}
use Rattle.std.specs.Prelude.{fold}
use Rattle.std.specs.Int.RustNames.{unsigned_abs}
use Rattle.std.proofs.Math.Nat.{mul-div-le}
use Rattle.std.proofs.lemmas.Int.{ints}
use Rattle.track_motion.specs.declared.track.Track.{Track}
use Rattle.track_table.specs.declared.clock.TheConstants.{MOST_TRACKS}
use Rattle.track_table.specs.Stamps.{Clock, clock_after, clock_at_start, clock_of, latest_with, stamp_of}
use Rattle.track_table.specs.Times.{AreDayCycles, IsTime, at_near, cycle_time, day, half_day, window_of}
use Rattle.track_table.proofs.Feeds.{half_a_day_each, near_is, never_back, step_is}
use Rattle.track_table.proofs.Proper.{ends_rise}

-- a feed's latest time: no more than half a day a track after the start
record IsLatest (start latest : ℤ) (n : ℕ) : Type 0 where
  pub low : start ≤ℤ latest
  pub high : latest ≤ℤ (start +ℤ pos n *ℤ half_day)

latest_is : (start period : ℤ) (tracks : List Track) → IsLatest start (clock_of start period tracks).latest (length tracks)
latest_is start period tracks = record { low = never_back (clock_at_start start period) tracks; high = half_a_day_each (clock_at_start start period) tracks }

near_time : (start latest at : ℤ) (n : ℕ) → pos 0 ≤ℤ start → start <ℤ day → start ≤ℤ latest → latest ≤ℤ (start +ℤ pos n *ℤ half_day) → (latest -ℤ half_day) ≤ℤ at → at <ℤ (latest +ℤ half_day) → n < MOST_TRACKS → IsTime at
near_time start latest at n begun of_day since reach low high few = record { low = omega (arith, ints); high = omega (arith, ints) }

-- one more track can be stamped
pub stamped_in_time : (start period : ℤ) (tracks : List Track) (track : Track) → AreDayCycles start period → length tracks < MOST_TRACKS → IsTime (at_near (clock_of start period tracks).latest track.time)
stamped_in_time start period tracks track cycles few =
    let is = latest_is start period tracks in
    let latest = (clock_of start period tracks).latest in
    let near = near_is latest track.time in
    near_time start latest (at_near latest track.time) (length tracks) cycles.start_low cycles.start_high is.low is.high near.low near.high few

-- ---- the end of a window

end_at : (start period time : ℤ) (n p w : ℕ) → time ≡ start +ℤ pos n → period ≡ pos p → p * w ≤ n → cycle_time start period w ≤ℤ (time +ℤ period)
end_at start period time n p w at is below =
    let product : pos (w + 1) *ℤ pos p ≡ pos (p * w + p) = omega (arith, ints) in
    rw (is, product) (omega (arith, ints))

-- a window ends at most a period after a time in it
window_ends : (start period time : ℤ) → pos 1 ≤ℤ period → start ≤ℤ time → cycle_time start period (window_of start period time) ≤ℤ (time +ℤ period)
window_ends start period time some begun =
    let n = unsigned_abs (time -ℤ start) in
    let p = unsigned_abs period in
    end_at start period time n p (n / p) (omega (arith, ints)) (omega (arith, ints)) (mul-div-le n p)

begins_at : (start period : ℤ) (p w : ℕ) → period ≡ pos p → start ≤ℤ cycle_time start period w
begins_at start period p w is =
    let product : pos (w + 1) *ℤ pos p ≡ pos (p * w + p) = omega (arith, ints) in
    rw (is, product) (omega (arith, ints))

-- no cycle ends before the start
never_before : (start period : ℤ) (w : ℕ) → pos 1 ≤ℤ period → start ≤ℤ cycle_time start period w
never_before start period w some = begins_at start period (unsigned_abs period) w (omega (arith, ints))

end_time : (start period latest next end : ℤ) (n : ℕ) → AreDayCycles start period → latest ≤ℤ (start +ℤ pos n *ℤ half_day) → next ≤ℤ (latest +ℤ half_day) → start ≤ℤ end → end ≤ℤ (next +ℤ period) → n < MOST_TRACKS → IsTime end
end_time start period latest next end n cycles reach step low high few =
    let start_low = cycles.start_low in
    let start_high = cycles.start_high in
    let period_high = cycles.period_high in
    record { low = omega (arith, ints); high = omega (arith, ints) }

since : (a b c : ℤ) → a ≤ℤ b → b ≤ℤ c → a ≤ℤ c
since a b c one other = omega (arith, ints)

start_stays : (clock : Clock) (tracks : List Track) → (fold clock_after clock tracks).start ≡ clock.start
start_stays clock [] = refl
start_stays clock (t ∷ ts) = start_stays (clock_after clock t) ts

period_stays : (clock : Clock) (tracks : List Track) → (fold clock_after clock tracks).period ≡ clock.period
period_stays clock [] = refl
period_stays clock (t ∷ ts) = period_stays (clock_after clock t) ts

-- and its window ends at a time
pub window_in_time : (start period : ℤ) (feed place : ℕ) (tracks : List Track) (track : Track) → AreDayCycles start period → length tracks < MOST_TRACKS →
    IsTime (cycle_time start period (stamp_of (clock_of start period tracks) feed place track).window)
window_in_time start period feed place tracks track cycles few =
    let clock = clock_of start period tracks in
    let is = latest_is start period tracks in
    let step = step_is clock.latest track.time in
    let next = latest_with clock track in
    let window = window_of start period next in
    rw (start_stays (clock_at_start start period) tracks, period_stays (clock_at_start start period) tracks)
    (end_time start period clock.latest next (cycle_time start period window) (length tracks) cycles is.high step.high
    (never_before start period window cycles.period_low)
    (window_ends start period next cycles.period_low (since start clock.latest next is.low step.low))
    few)

-- ---- earlier cycles

earlier_time : (start one other : ℤ) → pos 0 ≤ℤ start → start ≤ℤ one → one ≤ℤ other → IsTime other → IsTime one
earlier_time start one other begun low below time =
    let high = time.high in
    record { low = omega (arith, ints); high = omega (arith, ints) }

-- each earlier cycle ends at a time
pub earlier_in_time : (start period : ℤ) (k l : ℕ) → AreDayCycles start period → k ≤ l → IsTime (cycle_time start period l) → IsTime (cycle_time start period k)
earlier_in_time start period k l cycles order time =
    let period_low = cycles.period_low in
    earlier_time start (cycle_time start period k) (cycle_time start period l) cycles.start_low (never_before start period k cycles.period_low)
    (ends_rise start period k l (omega (arith, ints)) order) time
