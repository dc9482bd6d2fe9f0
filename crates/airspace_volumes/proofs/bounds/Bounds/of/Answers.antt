use Rattle.std.proofs.Common.{rules, ◌≡◌, ap, ◌∙◌, Option, unwrap_or, ℤ, pos, get_or, take, FitsSigned, to_z, of_z, w64, arith}
use Rattle.std.proofs.lemmas.Int.{ints, to_z-of_z}
use Rattle.std.proofs.lemmas.List.{take_all}
use Rattle.std.proofs.lemmas.List.Elements.{All-more}
use Rattle.std.proofs.lemmas.Option.{unwrap_or-slice_get}
use Rattle.airspace_volumes.specs.declared.bounds.Bounds.{Bounds}
use Rattle.airspace_volumes.specs.Bounds.{AreInside, IsWithin}
use Rattle.airspace_volumes.proofs.bounds.Bounds.of.Goals as goal

still_within : (bounds wider : Bounds) (point : ℤ × ℤ) → AreInside bounds wider → IsWithin bounds point → IsWithin wider point
still_within bounds wider point inside within =
    let left = inside.left in
    let right = inside.right in
    let lower = inside.lower in
    let upper = inside.upper in
    let within_left = within.left in
    let within_right = within.right in
    let within_lower = within.lower in
    let within_upper = within.upper in
    record { left = omega (arith, ints); right = omega (arith, ints); lower = omega (arith, ints); upper = omega (arith, ints) }

-- the point that the code reads is the one of the list
kept : (bounds : Bounds) (x y : ℤ) → FitsSigned w64 x → FitsSigned w64 y → IsWithin bounds (x, y) → IsWithin bounds (to_z w64 (of_z w64 x), to_z w64 (of_z w64 y))
kept bounds x y fits_x fits_y within = rw (to_z-of_z w64 x fits_x, to_z-of_z w64 y fits_y) within

back : (bounds : Bounds) (x y : ℤ) → FitsSigned w64 x → FitsSigned w64 y → IsWithin bounds (to_z w64 (of_z w64 x), to_z w64 (of_z w64 y)) → IsWithin bounds (x, y)
back bounds x y fits_x fits_y within = rw (to_z-of_z w64 x fits_x, to_z-of_z w64 y fits_y) at within

pub loop-x-init : goal.loop-x-init
loop-x-init c =
    let first : c.unwrap_or-x.result ≡ get_or c.args.points.now 0 (pos 0, pos 0) = c.unwrap_or-x.ensures ∙ ap (λ (o : Option (ℤ × ℤ)). unwrap_or o (pos 0, pos 0)) (c.copied.ensures ∙ c.first.ensures.value) ∙ unwrap_or-slice_get c.args.points.now 0 (pos 0, pos 0) in (
      λ k d h. absurd (omega arith),
      λ some other has. c.at-bounds.ensures.least other (kept other c.unwrap_or-x.result.0 c.unwrap_or-x.result.1 (search rules) (search rules) (rw first (has 0 (pos 0, pos 0) some))),
    )

pub loop-x-preserved : goal.loop-x-preserved
loop-x-preserved c =
    let point : ℤ × ℤ = get_or c.args.points.now c.loop-x.x-index (pos 0, pos 0) in
    let fits_x : FitsSigned w64 (get_or c.args.points.now c.loop-x.x-index (pos 0, pos 0)).0 = search rules in
    let fits_y : FitsSigned w64 (get_or c.args.points.now c.loop-x.x-index (pos 0, pos 0)).1 = search rules in (
      All-more (IsWithin c.with-bounds.result) c.args.points.now c.loop-x.x-index (pos 0, pos 0) c.loop-x-test.true (λ k d h. still_within c.loop-x.bounds c.with-bounds.result _ c.with-bounds.ensures.wider (c.loop-x.invariant.0 k d h)) (back c.with-bounds.result point.0 point.1 fits_x fits_y c.with-bounds.ensures.within),
      λ some other has. c.with-bounds.ensures.least other (kept other point.0 point.1 fits_x fits_y (has c.loop-x.x-index (pos 0, pos 0) c.loop-x-test.true)) (c.loop-x.invariant.1 some other has),
    )

pub returns : goal.returns
returns c =
    let whole : take c.loop-x.x-index c.args.points.now ≡ c.args.points.now = take_all c.loop-x.x-index c.args.points.now c.loop-x-test.false in
    record {
      within = rw whole at c.loop-x.invariant.0;
      least = c.loop-x.invariant.1;
    }
