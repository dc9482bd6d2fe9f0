-- The ticks at which a level is from a floor to a ceiling.
use Rattle.std.proofs.Common.{◌≡◌, ℤ, pos, ◌+ℤ◌, ◌-ℤ◌, ◌*ℤ◌, ◌≤ℤ◌, ◌↔◌, true, arith}
use Rattle.std.proofs.lemmas.Int.{ints}
use Rattle.std.proofs.lemmas.Bool.{and_from, and_parts}
use Rattle.tick_sets.specs.Inequalities.{line_at}
use Rattle.tick_sets.specs.Ticks.{Has, IsProper, AreTicksWhere}
use Rattle.tick_sets.specs.declared.Ticks.{Ticks}
use Rattle.track_motion.specs.declared.motion.Motion.{Motion}
use Rattle.airspace_volumes.specs.Apw.{IsInBand, is_in_band_at}
use Rattle.site_types.specs.declared.airspace.Volume.{Volume}
use Rattle.airspace_volumes.proofs.Courses.{le_fact, le_true}
use Rattle.airspace_volumes.proofs.Products.{minus_times}

over_floor : (p z floor : ℤ) → pos 0 ≤ℤ (p +ℤ (z -ℤ floor)) → floor ≤ℤ (p +ℤ z)
over_floor p z floor h = omega (arith, ints)

floor_under : (p z floor : ℤ) → floor ≤ℤ (p +ℤ z) → pos 0 ≤ℤ (p +ℤ (z -ℤ floor))
floor_under p z floor h = omega (arith, ints)

under_ceiling : (p z ceiling : ℤ) → pos 0 ≤ℤ ((pos 0 -ℤ p) +ℤ (ceiling -ℤ z)) → (p +ℤ z) ≤ℤ ceiling
under_ceiling p z ceiling h = omega (arith, ints)

ceiling_over : (p z ceiling : ℤ) → (p +ℤ z) ≤ℤ ceiling → pos 0 ≤ℤ ((pos 0 -ℤ p) +ℤ (ceiling -ℤ z))
ceiling_over p z ceiling h = omega (arith, ints)

pub where_in_band : (m : Motion) (v : Volume) (l : ℤ) (above below met : Ticks) →
    AreTicksWhere (λ t. pos 0 ≤ℤ line_at m.vz (m.z -ℤ v.floor) t) l above →
    AreTicksWhere (λ t. pos 0 ≤ℤ line_at (pos 0 -ℤ m.vz) (v.ceiling -ℤ m.z) t) l below →
    ((t : ℤ) → Has met t ↔ (Has above t × Has below t)) → IsProper met → AreTicksWhere (IsInBand m v) l met
where_in_band m v l above below met over under members proper = record {
  within = λ t has. over.within t ((members t).0 has).0;
  holds = λ t has. (
    over_floor (m.vz *ℤ t) m.z v.floor (over.holds t ((members t).0 has).0),
    under_ceiling (m.vz *ℤ t) m.z v.ceiling (rw (minus_times m.vz t) at (under.holds t ((members t).0 has).1)),
  );
  all = λ t start end band. (members t).1 (
    over.all t start end (floor_under (m.vz *ℤ t) m.z v.floor band.0),
    under.all t start end (rw (minus_times m.vz t) (ceiling_over (m.vz *ℤ t) m.z v.ceiling band.1)),
  );
  proper = proper;
}

-- the test and the fact
pub band_fact : (m : Motion) (v : Volume) (t : ℤ) → is_in_band_at m v t ≡ true → IsInBand m v t
band_fact m v t h = let parts = and_parts _ _ h in (le_fact _ _ parts.0, le_fact _ _ parts.1)

pub band_true : (m : Motion) (v : Volume) (t : ℤ) → IsInBand m v t → is_in_band_at m v t ≡ true
band_true m v t band = and_from _ _ (le_true _ _ band.0) (le_true _ _ band.1)
