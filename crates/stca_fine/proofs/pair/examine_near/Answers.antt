use Rattle.std.proofs.Common.{rules, ◌≡◌, sym, ap, ◌∙◌, ℕ, pos, Some, option_map, arith, w64, FitsSigned, to_z, of_z}
use Rattle.std.proofs.lemmas.Int.{ints, to_z-of_z}
use Rattle.site_types.specs.Looks.{look_of}
use Rattle.site_types.specs.declared.net.TheConstants.{STCA}
use Rattle.stca_fine.specs.Stca.{first_predicted, is_current, v_of}
use Rattle.stca_fine.proofs.Apart.{as_is}
use Rattle.stca_fine.proofs.Hits.{hit_ahead, hit_now, map_some, none_ahead, predicted_ahead}
use Rattle.stca_fine.proofs.Sets.{height_limit, length_limit, limit_by_split, limit_is, split_is}
use Rattle.stca_fine.proofs.pair.examine_near.Goals as goal
use Rattle.stca_fine.proofs.pair.examine_near.Goals.{After-is_in_proximity, After-look_ahead, After-first_within}

current : (c : After-is_in_proximity) → c.is_in_proximity.result ≡ is_current c.args.a.now c.args.b.now c.args.set.now
current c =
    let v = split_is c.args.a.now c.args.b.now c.args.set.now c.args.set.now.now_v_low c.args.set.now.now_v_high c.by_split-now_v.result (height_limit _ c.requires.set.now_v_low) (height_limit _ c.requires.set.now_v_high) c.by_split-now_v.ensures in
    rw (c.between-apart.ensures, limit_is c.args.set.now.now_h (length_limit _ c.requires.set.now_h), v) at c.is_in_proximity.ensures

pub returns-then-is_in_proximity-clause-hit : goal.returns-then-is_in_proximity-clause-hit
returns-then-is_in_proximity-clause-hit c =
    let now = current (goal.at.returns-then-is_in_proximity-clause-hit c).After-is_in_proximity in
    let found = rw c.between-apart.ensures at c.figures.ensures.figures in
    ap Some found ∙ sym (hit_now c.args.a.now c.args.b.now c.args.set.now (sym now ∙ c.if-is_in_proximity.true))

v : (c : After-look_ahead) → to_z w64 (of_z w64 c.by_split-v.result) ≡ v_of c.args.a.now c.args.b.now c.args.set.now
v c = split_is c.args.a.now c.args.b.now c.args.set.now c.args.set.now.v_low c.args.set.now.v_high c.by_split-v.result (height_limit _ c.requires.set.v_low) (height_limit _ c.requires.set.v_high) c.by_split-v.ensures

look : (c : After-look_ahead) → to_z w64 (of_z w64 c.look_ahead.result) ≡ pos (look_of STCA c.args.set.now)
look c =
    let fits : FitsSigned w64 c.look_ahead.result = search rules in
    to_z-of_z w64 c.look_ahead.result fits ∙ c.look_ahead.ensures.look

pub first_within-requires : goal.first_within-requires
first_within-requires c =
    let before = (goal.at.first_within-requires c).After-look_ahead in
    rw (limit_is c.args.set.now.h (length_limit _ c.requires.set.h), v before, look before) (record {
      horizontal = length_limit _ c.requires.set.h;
      vertical = limit_by_split c.args.a.now c.args.b.now c.args.set.now _ _ (height_limit _ c.requires.set.v_low) (height_limit _ c.requires.set.v_high);
      ahead = rw c.look_ahead.ensures.look at c.look_ahead.ensures.range;
    })

predicted : (c : After-first_within) → to_z w64 (of_z w64 c.by_split-v.result) ≡ v_of c.args.a.now c.args.b.now c.args.set.now → to_z w64 (of_z w64 c.look_ahead.result) ≡ pos (look_of STCA c.args.set.now) →
    c.first_within.result ≡ option_map (λ (t : ℕ). pos t) (first_predicted c.args.a.now c.args.b.now c.args.set.now)
predicted c v_is look_is = rw (c.between-apart.ensures, limit_is c.args.set.now.h (length_limit _ c.requires.set.h), v_is, look_is) at c.first_within.ensures

pub returns-in_err-first-clause-hit : goal.returns-in_err-first-clause-hit
returns-in_err-first-clause-hit c =
    let at = goal.at.returns-in_err-first-clause-hit c in
    let now = current at.After-is_in_proximity in
    let told = predicted at.After-first_within (v at.After-look_ahead) (look at.After-look_ahead) in
    c.from_residual.ensures ∙ sym (none_ahead c.args.a.now c.args.b.now c.args.set.now (sym now ∙ c.if-is_in_proximity.false) (sym c.in_err-first.was ∙ told))

pub figures-requires-2-clause-first : goal.figures-requires-2-clause-first
figures-requires-2-clause-first c =
    let at = goal.at.figures-requires-2-clause-first c in
    let range = c.look_ahead.ensures.range.high in
    let last = c.look_ahead.ensures.look in
    let told = predicted at.After-first_within (v at.After-look_ahead) (look at.After-look_ahead) in
    let found = map_some (first_predicted c.args.a.now c.args.b.now c.args.set.now) c.in_ok-first.first (sym c.in_ok-first.was ∙ told) in
    let inside = predicted_ahead c.searches_find_the_first.ensures.finds c.args.a.now c.args.b.now c.args.set.now found.0 found.1 in
    let tick : c.in_ok-first.first ≡ pos found.0 = found.2 in
    rw (as_is c.in_ok-first.first (omega (arith, ints)), tick) (record { low = omega (arith, ints); high = omega (arith, ints) })

pub returns-clause-hit : goal.returns-clause-hit
returns-clause-hit c =
    let at = goal.at.returns-clause-hit c in
    let now = current at.After-is_in_proximity in
    let range = c.look_ahead.ensures.range.high in
    let last = c.look_ahead.ensures.look in
    let told = predicted at.After-first_within (v at.After-look_ahead) (look at.After-look_ahead) in
    let found = map_some (first_predicted c.args.a.now c.args.b.now c.args.set.now) c.in_ok-first.first (sym c.in_ok-first.was ∙ told) in
    let inside = predicted_ahead c.searches_find_the_first.ensures.finds c.args.a.now c.args.b.now c.args.set.now found.0 found.1 in
    let tick : c.in_ok-first.first ≡ pos found.0 = found.2 in
    let figures = rw (c.between-apart.ensures, as_is c.in_ok-first.first (omega (arith, ints)), tick) at c.figures-2.ensures.figures in
    ap Some figures ∙ sym (hit_ahead c.args.a.now c.args.b.now c.args.set.now found.0 (sym now ∙ c.if-is_in_proximity.false) found.1)
