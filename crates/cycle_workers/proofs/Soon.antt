-- The first tick of a hit of a row is one of the look-ahead.
use Rattle.std.proofs.Common.{◌≡◌, ◌∙◌, refl, ℕ, ◌<◌, ◌≤◌, Bool, true, false, cond, find, length, Option, Some, None, option_map, ℤ, pos, slice_index_or, inl, inr, sym, ap, arith}
use Rattle.std.specs.Int.RustNames.{unsigned_abs}
use Rattle.std.proofs.Math.ListN.{get_or-eq_default}
use Rattle.std.proofs.lemmas.Bool.{cases_lt}
use Rattle.std.proofs.lemmas.Int.{ints}
use Rattle.std.proofs.lemmas.Option.{unwrap_or-slice_get}
use Rattle.airspace_volumes.specs.Active.{is_active}
use Rattle.airspace_volumes.specs.Apw.{apw_hit, first_inside, is_inside_at}
use Rattle.approach_funnel.specs.Apm.{apm_hit, first_deviation, hit_at, is_captured, is_deviating}
use Rattle.approach_funnel.specs.declared.hit.FunnelHit.{FunnelHit}
use Rattle.site_types.specs.Looks.{look_of}
use Rattle.site_types.specs.Ranges.{IsSet}
use Rattle.site_types.specs.declared.airspace.Volume.{Volume}
use Rattle.site_types.specs.declared.funnel.Funnel.{Funnel}
use Rattle.site_types.specs.declared.site.Set.{Set}
use Rattle.site_types.specs.declared.net.TheConstants.{APM, APW, MSAW}
use Rattle.terrain_cells.specs.Msaw.{first_too_low, is_too_low_at, msaw_hit}
use Rattle.terrain_file.specs.declared.terrain.Terrain.{Terrain}
use Rattle.tick_sets.specs.Searches.{Finds, hit_from, ticks_to}
use Rattle.tick_sets.specs.declared.TickHit.{TickHit}
use Rattle.track_motion.specs.declared.motion.Motion.{Motion}
use Rattle.cycle_workers.specs.Firsts.{IsSoon}

-- how far a set looks ahead
look_in : (net : ℕ) (set : Set) → net < length set.look → IsSet set → unsigned_abs (slice_index_or set.look net (pos 0)) ≤ 65534
look_in net set some is_set =
    let look = is_set.look net (pos 0) some in
    let low = look.low in
    let high = look.high in
    omega (arith, ints)

look_bound : (net : ℕ) (set : Set) → IsSet set → look_of net set ≤ 65534
look_bound net set is_set =
    elim (cases_lt net (length set.look)) [
      | inl some ↦ rw (unwrap_or-slice_get set.look net (pos 0)) (look_in net set some is_set)
      | inr few ↦ rw (unwrap_or-slice_get set.look net (pos 0), get_or-eq_default set.look (pos 0) few) (omega arith)
    ]

-- what is made of the first tick that a search finds
module _ {H : Type 0} (made : ℕ → H) (first : H → ℤ) (p : ℕ → Bool) (look : ℕ) (hit : H) where
  soon_of : (o : Option ℕ) → ((t : ℕ) → first (made t) ≡ pos t) → look ≤ 65534 → Finds p look o → option_map made o ≡ Some hit → IsSoon (first hit)
  soon_of None tells few finds is = absurd (cc)
  soon_of (Some t) tells few finds is =
      let same : made t ≡ hit = cc in
      let ahead = finds.ahead in
      (t, omega arith, ap first (sym same) ∙ tells t)

  soon_if : (o : Option ℕ) (b : Bool) → ((t : ℕ) → first (made t) ≡ pos t) → look ≤ 65534 → Finds p look o → cond b (option_map made o) None ≡ Some hit → IsSoon (first hit)
  soon_if o true tells few finds is = soon_of o tells few finds is
  soon_if o false tells few finds is = absurd (cc)

pub ground_soon : (m : Motion) (terrain : Terrain) (set : Set) (hit : TickHit) → IsSet set → ((p : ℕ → Bool) (look : ℕ) → Finds p look (find p (ticks_to look))) → msaw_hit m terrain set ≡ Some hit → IsSoon hit.first
ground_soon m terrain set hit is_set finds is =
    let p : ℕ → Bool = λ (t : ℕ). is_too_low_at m terrain (pos t) in
    let look = look_of MSAW set in
    soon_of (λ (t : ℕ). hit_from set.urgent (pos t)) (λ (h : TickHit). h.first) p look hit (first_too_low m terrain look) (λ t. refl) (look_bound MSAW set is_set) (finds p look) is

pub volume_soon : (m : Motion) (v : Volume) (time : ℤ) (set : Set) (hit : TickHit) → IsSet set → ((p : ℕ → Bool) (look : ℕ) → Finds p look (find p (ticks_to look))) → apw_hit m v time set ≡ Some hit → IsSoon hit.first
volume_soon m v time set hit is_set finds is =
    let p : ℕ → Bool = λ (t : ℕ). is_inside_at m v (pos t) in
    let look = look_of APW set in
    soon_if (λ (t : ℕ). hit_from set.urgent (pos t)) (λ (h : TickHit). h.first) p look hit (first_inside m v look) (is_active v time) (λ t. refl) (look_bound APW set is_set) (finds p look) is

pub funnel_soon : (m : Motion) (f : Funnel) (set : Set) (hit : FunnelHit) → IsSet set → ((p : ℕ → Bool) (look : ℕ) → Finds p look (find p (ticks_to look))) → apm_hit m f set ≡ Some hit → IsSoon hit.first
funnel_soon m f set hit is_set finds is =
    let p : ℕ → Bool = λ (t : ℕ). is_deviating f m (pos t) in
    let look = look_of APM set in
    soon_if (λ (t : ℕ). hit_at f m set (pos t)) (λ (h : FunnelHit). h.first) p look hit (first_deviation f m look) (is_captured f m) (λ t. refl) (look_bound APM set is_set) (finds p look) is
