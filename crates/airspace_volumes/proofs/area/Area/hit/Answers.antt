use Rattle.std.proofs.Common.{rules, ◌≡◌, sym, ap, ◌∙◌, ℕ, pos, ◌<◌, true, true≢false, Some, Result, Ok, Err, IfOk, OnErr, option_map, length, unsigned_abs, FitsSigned, to_z, of_z, arith, w64}
use Rattle.std.proofs.lemmas.Int.{ints, to_z-of_z}
use Rattle.site_types.specs.Looks.{look_of}
use Rattle.site_types.specs.declared.net.TheConstants.{APW}
use Rattle.airspace_volumes.specs.Active.{is_active}
use Rattle.airspace_volumes.specs.Apw.{CanBeHit, first_inside}
use Rattle.airspace_volumes.proofs.Hits.{active_same, ahead_same, found_same, hit_found, no_hit_asleep, no_hit_beside, no_hit_found}
use Rattle.airspace_volumes.proofs.area.Area.hit.Goals as goal
use Rattle.airspace_volumes.proofs.area.Area.hit.Goals.{After-look_ahead-look, After-first_inside, then-passes_by-via-then-passes_by, then-passes_by-via-else-passes_by+then-not-active}

look : (c : After-look_ahead-look) → unsigned_abs (to_z w64 (of_z w64 c.look_ahead-look.result)) ≡ look_of APW c.args.set.now
look c =
    let fits : FitsSigned w64 c.look_ahead-look.result = search rules in
    ap unsigned_abs (to_z-of_z w64 c.look_ahead-look.result fits ∙ c.look_ahead-look.ensures.look)

pub returns-then-passes_by-clause-hit : goal.returns-then-passes_by-clause-hit
returns-then-passes_by-clause-hit c =
    elim c.then-passes_by.branch [
      | then-passes_by-via-then-passes_by w ↦
          sym (no_hit_beside c.searches_find_the_first.ensures.only c.args.m.now c.args.self.now c.args.time c.args.set.now (rw (look (goal.at.returns-then-passes_by-clause-hit c).After-look_ahead-look) at (c.passes_by.ensures.passes w.if-passes_by.true)))
      | then-passes_by-via-else-passes_by+then-not-active w ↦
          (let active = active_same w.volume.result.now c.args.self.now _ c.args.time w.active.result w.volume.ensures (to_z-of_z w64 c.args.time c.ranges.time) w.active.ensures in
          sym (no_hit_asleep c.args.m.now c.args.self.now c.args.time c.args.set.now (sym active ∙ w.if-not-active.true)))
    ]

is_awake : (c : After-first_inside) → is_active c.args.self.now c.args.time ≡ true
is_awake c =
    sym (active_same c.volume.result.now c.args.self.now _ c.args.time c.active.result c.volume.ensures (to_z-of_z w64 c.args.time c.ranges.time) c.active.ensures) ∙ c.if-not-active.false

found : (c : After-first_inside) → unsigned_abs (to_z w64 (of_z w64 c.look_ahead-look.result)) ≡ look_of APW c.args.set.now → IfOk c.first_inside.result (λ first. first ≡ option_map (λ (t : ℕ). pos t) (first_inside c.args.m.now c.args.self.now (look_of APW c.args.set.now)))
found c look_is = found_same c.args.m.now c.volume-2.result.now c.args.self.now _ (look_of APW c.args.set.now) c.first_inside.result c.volume-2.ensures look_is c.first_inside.ensures.first

on_err : {X E : Type 0} (r : Result X E) (P : Type 0) → P → OnErr r P
on_err (Ok x) P holds = tt
on_err (Err e) P holds = holds

pub returns-in_err-first-clause-memory : goal.returns-in_err-first-clause-memory
returns-in_err-first-clause-memory c =
    let at = goal.at.returns-in_err-first-clause-memory c in
    let look_is = look at.After-look_ahead-look in
    let count = c.requires.volume.points.count.low in
    let some : 0 < length c.args.self.now.points = omega (arith, ints) in
    on_err c.from_residual.result (CanBeHit c.args.m.now c.args.self.now c.args.time c.args.set.now) (record {
      active = is_awake at.After-first_inside;
      in_band = ahead_same c.args.m.now c.volume-2.result.now c.args.self.now _ (look_of APW c.args.set.now) c.first_inside.result c.in_err-first.field-0.0 c.volume-2.ensures look_is c.in_err-first.was c.first_inside.ensures.memory;
      near = λ passes. true≢false (sym (c.passes_by.ensures.all some (rw (← look_is) at passes)) ∙ c.if-passes_by.false);
    })

pub returns-in_default-clause-hit : goal.returns-in_default-clause-hit
returns-in_default-clause-hit c =
    let at = goal.at.returns-in_default-clause-hit c in
    let told = rw c.in_ok-first.was at (found at.After-first_inside (look at.After-look_ahead-look)) in
    sym (no_hit_found c.args.m.now c.args.self.now c.args.time c.args.set.now (is_awake at.After-first_inside) (sym c.in_default.is ∙ told))

pub returns-clause-hit : goal.returns-clause-hit
returns-clause-hit c =
    let at = goal.at.returns-clause-hit c in
    let told = rw c.in_ok-first.was at (found at.After-first_inside (look at.After-look_ahead-look)) in
    let hit = hit_found c.args.m.now c.args.self.now c.args.time c.args.set.now c.in-Some.first (is_awake at.After-first_inside) (sym c.in-Some.is ∙ told) in
    let fits : FitsSigned w64 c.in-Some.first = search rules in
    let fits_limit : FitsSigned w64 c.args.set.now.urgent = search rules in
    let figures = rw (to_z-of_z w64 c.in-Some.first fits, to_z-of_z w64 c.args.set.now.urgent fits_limit, hit.1) at c.from_tick.ensures in
    ap Some figures ∙ sym hit.2
