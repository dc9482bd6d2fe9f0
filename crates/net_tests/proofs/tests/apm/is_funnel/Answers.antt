use Rattle.std.proofs.Common.{rules, pos, negsuc, ◌≤ℤ◌, ℤ, lit<, arith, w64, SFits, to_z, of_z}
use Rattle.std.proofs.lemmas.Int.{ints, to_z-of_z}
use Rattle.site_types.specs.Limits.{IsHeight}
use Rattle.site_types.specs.declared.ranges.TheConstants.{CAPTURE_FEET}
use Rattle.net_tests.proofs.tests.apm.is_funnel.Goals as goal

-- a value stays what it is in 64 bits
kept : (value low high : ℤ) → SFits w64 value → (low ≤ℤ to_z w64 (of_z w64 value)) × (to_z w64 (of_z w64 value) ≤ℤ high) → (low ≤ℤ value) × (value ≤ℤ high)
kept value low high fits between = rw (to_z-of_z w64 value fits) at between

height_from : (ceiling : ℤ) → (negsuc 2457599 ≤ℤ ceiling) × (ceiling ≤ℤ pos 73728000) → IsHeight CAPTURE_FEET ceiling
height_from ceiling between = let low = between.0 in let high = between.1 in record { low = omega (arith, ints); high = omega (arith, ints) }

pub returns-then-are_between : goal.returns-then-are_between
returns-then-are_between c = λ directed.
    let all = c.are_between.ensures c.if-are_between.true in
    let x_fits : SFits w64 c.args.f.x = search rules in
    let in_x = kept c.args.f.x _ _ x_fits (all 0 (pos 0, pos 0, pos 0) (lit< tt)) in
    let y_fits : SFits w64 c.args.f.y = search rules in
    let in_y = kept c.args.f.y _ _ y_fits (all 1 (pos 0, pos 0, pos 0) (lit< tt)) in
    let dx_fits : SFits w64 c.args.f.dx = search rules in
    let in_dx = kept c.args.f.dx _ _ dx_fits (all 2 (pos 0, pos 0, pos 0) (lit< tt)) in
    let dy_fits : SFits w64 c.args.f.dy = search rules in
    let in_dy = kept c.args.f.dy _ _ dy_fits (all 3 (pos 0, pos 0, pos 0) (lit< tt)) in
    let elevation_fits : SFits w64 c.args.f.elevation = search rules in
    let in_elevation = kept c.args.f.elevation _ _ elevation_fits (all 4 (pos 0, pos 0, pos 0) (lit< tt)) in
    let reach_fits : SFits w64 c.args.f.reach = search rules in
    let in_reach = kept c.args.f.reach _ _ reach_fits (all 5 (pos 0, pos 0, pos 0) (lit< tt)) in
    let ceiling_fits : SFits w64 c.args.f.ceiling = search rules in
    let in_ceiling = kept c.args.f.ceiling _ _ ceiling_fits (all 6 (pos 0, pos 0, pos 0) (lit< tt)) in
    let capture_half_fits : SFits w64 c.args.f.capture_half = search rules in
    let in_capture_half = kept c.args.f.capture_half _ _ capture_half_fits (all 7 (pos 0, pos 0, pos 0) (lit< tt)) in
    let capture_side_fits : SFits w64 c.args.f.capture_side = search rules in
    let in_capture_side = kept c.args.f.capture_side _ _ capture_side_fits (all 8 (pos 0, pos 0, pos 0) (lit< tt)) in
    let half_fits : SFits w64 c.args.f.half = search rules in
    let in_half = kept c.args.f.half _ _ half_fits (all 9 (pos 0, pos 0, pos 0) (lit< tt)) in
    let side_fits : SFits w64 c.args.f.side = search rules in
    let in_side = kept c.args.f.side _ _ side_fits (all 10 (pos 0, pos 0, pos 0) (lit< tt)) in
    let low_base_fits : SFits w64 c.args.f.low_base = search rules in
    let in_low_base = kept c.args.f.low_base _ _ low_base_fits (all 11 (pos 0, pos 0, pos 0) (lit< tt)) in
    let low_rise_fits : SFits w64 c.args.f.low_rise = search rules in
    let in_low_rise = kept c.args.f.low_rise _ _ low_rise_fits (all 12 (pos 0, pos 0, pos 0) (lit< tt)) in
    let high_base_fits : SFits w64 c.args.f.high_base = search rules in
    let in_high_base = kept c.args.f.high_base _ _ high_base_fits (all 13 (pos 0, pos 0, pos 0) (lit< tt)) in
    let high_rise_fits : SFits w64 c.args.f.high_rise = search rules in
    let in_high_rise = kept c.args.f.high_rise _ _ high_rise_fits (all 14 (pos 0, pos 0, pos 0) (lit< tt)) in
    record {
      x = record { low = in_x.0; high = in_x.1 };
      y = record { low = in_y.0; high = in_y.1 };
      dx = record { low = in_dx.0; high = in_dx.1 };
      dy = record { low = in_dy.0; high = in_dy.1 };
      elevation = record { low = in_elevation.0; high = in_elevation.1 };
      reach = record { low = in_reach.0; high = in_reach.1 };
      ceiling = height_from c.args.f.ceiling in_ceiling;
      capture_half = record { low = in_capture_half.0; high = in_capture_half.1 };
      capture_side = record { low = in_capture_side.0; high = in_capture_side.1 };
      half = record { low = in_half.0; high = in_half.1 };
      side = record { low = in_side.0; high = in_side.1 };
      low_base = record { low = in_low_base.0; high = in_low_base.1 };
      low_rise = record { low = in_low_rise.0; high = in_low_rise.1 };
      high_base = record { low = in_high_base.0; high = in_high_base.1 };
      high_rise = record { low = in_high_rise.0; high = in_high_rise.1 };
      directed = rw (to_z-of_z w64 c.args.f.dx dx_fits, to_z-of_z w64 c.args.f.dy dy_fits) at (c.is_directed.ensures directed);
    }
