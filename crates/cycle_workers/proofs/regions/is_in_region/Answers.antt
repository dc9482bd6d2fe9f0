use Rattle.std.proofs.Common.{◌≡◌, ◌∙◌, refl, sym, Bool, true, false, ◌&&◌, int_le, rules, w64, to_z, of_z}
use Rattle.std.proofs.lemmas.Int.{to_z-of_z}
use Rattle.polygon_plan.specs.Inside.{inside}
use Rattle.cycle_workers.proofs.regions.is_in_region.Goals as goal

either : (i f c : Bool) → (f && c) ≡ true → i ≡ (i && f && c)
either false f c both = refl
either true f c both = sym both

pub returns-then-is_in_band : goal.returns-then-is_in_band
returns-then-is_in_band c =
    let m = c.args.m.now in
    let r = c.args.region.now in
    let band : (int_le r.floor m.z && int_le m.z r.ceiling) ≡ true = sym c.is_in_band.ensures ∙ c.if-is_in_band.true in
    let x : to_z w64 (of_z w64 m.x) ≡ m.x = to_z-of_z w64 m.x (search rules) in
    let y : to_z w64 (of_z w64 m.y) ≡ m.y = to_z-of_z w64 m.y (search rules) in
    let same : c.inside.result ≡ inside r.points m.x m.y = rw (x, y, c.as_slice.ensures) at c.inside.ensures in
    same ∙ either (inside r.points m.x m.y) (int_le r.floor m.z) (int_le m.z r.ceiling) band
