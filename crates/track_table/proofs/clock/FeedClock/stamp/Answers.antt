use Rattle.std.proofs.Common.{◌≡◌, ℤ, w64, FitsSigned, ap, sym, ◌∙◌, arith, rules}
use Rattle.std.specs.Int.{int_max}
use Rattle.std.proofs.lemmas.Int.{to_z-of_z, ints, clamps}
use Rattle.track_table.specs.Stamps.{Clock, IsClock}
use Rattle.track_table.specs.Times.{IsTime, at_near, window_of}
use Rattle.track_table.proofs.clock.FeedClock.stamp.Goals as goal
use Rattle.track_table.proofs.clock.FeedClock.stamp.Goals.{After-max-self-inside}

-- the later of two times is a clock's latest
clock_next : (start period latest at : ℤ) → IsClock start period latest → IsTime at → IsClock start period (int_max latest at)
clock_next start period latest at clock time =
    let time_low = clock.time.low in
    let time_high = clock.time.high in
    let begun = clock.begun in
    let low = time.low in
    let high = time.high in
    record { cycles = clock.cycles; time = record { low = omega (arith, ints, clamps); high = omega (arith, ints, clamps) }; begun = omega (arith, ints, clamps) }

told : (c : After-max-self-inside) → c.at_near-at.result ≡ at_near c.self.inside.latest c.args.track.time
told c = let latest : FitsSigned w64 c.self.inside.latest = search rules in simp to_z-of_z at c.at_near-at.ensures.at

latest : (c : After-max-self-inside) → c.max-self-inside.result ≡ int_max c.self.inside.latest (at_near c.self.inside.latest c.args.track.time)
latest c =
    let fits : FitsSigned w64 c.self.inside.latest = search rules in
    let at : FitsSigned w64 c.at_near-at.result = search rules in
    (simp to_z-of_z at c.max-self-inside.ensures.value) ∙ ap (int_max c.self.inside.latest) (told c)

later : (c : After-max-self-inside) → IsClock c.self.inside.start c.self.inside.period c.max-self-inside.result
later c =
    let near : IsTime (at_near c.self.inside.latest c.args.track.time) = rw (ap (λ (k : Clock). k.latest) (sym c.self.view_is)) at c.requires in
    rw (latest c) (clock_next c.self.inside.start c.self.inside.period c.self.inside.latest _ c.self.invariant near)

pub window_of-window-requires : goal.window_of-window-requires
window_of-window-requires c =
    let start : FitsSigned w64 c.self.inside.start = search rules in
    let period : FitsSigned w64 c.self.inside.period = search rules in
    let max : FitsSigned w64 c.max-self-inside.result = search rules in
    let is = later (goal.at.window_of-window-requires c).After-max-self-inside in
    simp to_z-of_z is

pub invariant_of-self : goal.invariant_of-self
invariant_of-self c =
    let max : FitsSigned w64 c.max-self-inside.result = search rules in
    simp to_z-of_z (later (goal.at.invariant_of-self c).After-max-self-inside)

pub returns-clause-stamp : goal.returns-clause-stamp
returns-clause-stamp c =
    let start : FitsSigned w64 c.self.inside.start = search rules in
    let period : FitsSigned w64 c.self.inside.period = search rules in
    let max : FitsSigned w64 c.max-self-inside.result = search rules in
    let at : FitsSigned w64 c.at_near-at.result = search rules in
    let told_at = told (goal.at.returns-clause-stamp c).After-max-self-inside in
    let window : c.window_of-window.result ≡ window_of c.self.inside.start c.self.inside.period c.max-self-inside.result = simp to_z-of_z at c.window_of-window.ensures in
    let latest_time = latest (goal.at.returns-clause-stamp c).After-max-self-inside in
    rw (← c.self.view_is) (simp to_z-of_z (rw (told_at, window, latest_time)))
