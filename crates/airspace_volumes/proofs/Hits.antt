-- From the first tick inside the polygon among those within the band to the hit.
use Rattle.std.proofs.Common.{◌≡◌, refl, sym, ap, ◌∙◌, ℕ, ℤ, pos, ◌≤ℤ◌, Bool, true, false, if◌then◌else◌, Option, Some, None, Result, Ok, Err, IfOk, IfSome, IfNone, OnErr, option_map, unsigned_abs, arith}
use Rattle.std.proofs.lemmas.Bool.{and_from, and_left, and_parts, false_from_ne_true}
use Rattle.std.proofs.lemmas.Int.{ints}
use Rattle.site_types.specs.Looks.{look_of}
use Rattle.site_types.specs.declared.site.Set.{Set}
use Rattle.site_types.specs.declared.net.TheConstants.{APW}
use Rattle.tick_sets.specs.Inequalities.{IsLook}
use Rattle.tick_sets.specs.Searches.{hit_from}
use Rattle.tick_sets.specs.Ticks.{Has, AreTicksWhere, IsFirstTick}
use Rattle.tick_sets.specs.declared.Ticks.{Ticks}
use Rattle.tick_sets.specs.declared.TickHit.{TickHit}
use Rattle.track_motion.specs.declared.motion.Motion.{Motion}
use Rattle.polygon_plan.specs.Inside.{IsInsideAt}
use Rattle.airspace_volumes.specs.Active.{is_active}
use Rattle.airspace_volumes.specs.Apw.{IsAheadInBand, IsInBand, apw_hit, first_inside, is_inside_at}
use Rattle.airspace_volumes.specs.Bounds.{PassesBy}
use Rattle.site_types.specs.declared.airspace.Volume.{Volume}
use Rattle.airspace_volumes.proofs.Band.{band_fact, band_true}
use Rattle.airspace_volumes.proofs.Outside.{never_inside}
use Rattle.airspace_volumes.proofs.Searches.{OnlyThatIsFound}

-- ---- the search
-- inside the volume at a tick of the look-ahead: a tick within the band, at which the place is inside the polygon
in_both : (m : Motion) (v : Volume) (l : ℤ) (band : Ticks) (t : ℕ) → AreTicksWhere (IsInBand m v) l band → pos t ≤ℤ l → is_inside_at m v (pos t) ≡ true → Has band (pos t) × IsInsideAt v.points m (pos t)
in_both m v l band t are ahead inside =
    let parts = and_parts _ _ inside in
    (are.all (pos t) (omega (arith, ints)) ahead (band_fact m v (pos t) parts.1), parts.0)

pub found_first : {E : Type 0} → OnlyThatIsFound → (m : Motion) (v : Volume) (l : ℤ) (band : Ticks) (r : Result (Option ℤ) E) → IsLook l → AreTicksWhere (IsInBand m v) l band →
    IfOk r (λ answer. IfSome answer (IsFirstTick (IsInsideAt v.points m) band)) →
    IfOk r (λ answer. IfNone answer ((t : ℤ) → Has band t → ¬ IsInsideAt v.points m t)) →
    IfOk r (λ first. first ≡ option_map (λ (t : ℕ). pos t) (first_inside m v (unsigned_abs l)))
found_first only m v l band (Err e) look are found none = found
found_first only m v l band (Ok None) look are found none =
    let low = look.low in
    sym (ap (λ (o : Option ℕ). option_map (λ (t : ℕ). pos t) o) (only (λ t. is_inside_at m v (pos t)) (unsigned_abs l) None
    (λ t ahead. false_from_ne_true (is_inside_at m v (pos t)) (λ inside.
    let both = in_both m v l band t are (omega (arith, ints)) inside in
    none (pos t) both.0 both.1))))
found_first only m v l band (Ok (Some t)) look are found none =
    let low = look.low in
    let ends = are.within t found.member in
    let first = ends.0 in
    let last = ends.1 in
    let is : t ≡ pos (unsigned_abs t) = omega (arith, ints) in
    let passes : is_inside_at m v (pos (unsigned_abs t)) ≡ true = rw (← is) (and_from _ _ found.holds (band_true m v t (are.holds t found.member))) in
    ap Some is ∙ sym (ap (λ (o : Option ℕ). option_map (λ (t : ℕ). pos t) o) (only (λ t. is_inside_at m v (pos t)) (unsigned_abs l) (Some (unsigned_abs t)) (record {
      ahead = omega (arith, ints);
      passes = passes;
      earlier = λ s before. false_from_ne_true (is_inside_at m v (pos s)) (λ inside.
          let both = in_both m v l band s are (omega (arith, ints)) inside in
          let least = found.first (pos s) both.0 both.1 in
          omega (arith, ints));
    })))

pub ahead_in_band : {E X : Type 0} (m : Motion) (v : Volume) (l : ℤ) (band : Ticks) (r : Result X E) → AreTicksWhere (IsInBand m v) l band → OnErr r ((t : ℤ) × Has band t) → OnErr r (IsAheadInBand m v (unsigned_abs l))
ahead_in_band m v l band (Ok x) are some = some
ahead_in_band m v l band (Err e) are (t, has) =
    let ends = are.within t has in
    let first = ends.0 in
    let last = ends.1 in
    let is : t ≡ pos (unsigned_abs t) = omega (arith, ints) in
    (unsigned_abs t, omega (arith, ints), rw (← is) (are.holds t has))

-- ---- the hit
by_test : (b : Bool) (hit : Option TickHit) → hit ≡ None → (if b then hit else None) ≡ None
by_test true hit none = none
by_test false hit none = refl

pub no_hit_beside : OnlyThatIsFound → (m : Motion) (v : Volume) (time : ℤ) (set : Set) → PassesBy v.points m (look_of APW set) → apw_hit m v time set ≡ None
no_hit_beside only m v time set passes = by_test (is_active v time) (option_map (λ (t : ℕ). hit_from set.urgent (pos t)) (first_inside m v (look_of APW set)))
    (ap (λ (o : Option ℕ). option_map (λ (t : ℕ). hit_from set.urgent (pos t)) o) (only (λ t. is_inside_at m v (pos t)) (look_of APW set) None (λ t ahead. and_left _ _ (never_inside v.points m (look_of APW set) t passes ahead))))

pub no_hit_asleep : (m : Motion) (v : Volume) (time : ℤ) (set : Set) → is_active v time ≡ false → apw_hit m v time set ≡ None
no_hit_asleep m v time set asleep = rw asleep refl

-- what was found, as the hit
none_found : (found : Option ℕ) → None ≡ option_map (λ (t : ℕ). pos t) found → found ≡ None
none_found None same = refl
none_found (Some t) same = cc

some_found : (found : Option ℕ) (first : ℤ) → Some first ≡ option_map (λ (t : ℕ). pos t) found → (t : ℕ) × (found ≡ Some t) × (first ≡ pos t)
some_found None first same = let no : ⊥ = cc in absurd no
some_found (Some t) first same = (t, refl, cc)

pub no_hit_found : (m : Motion) (v : Volume) (time : ℤ) (set : Set) → is_active v time ≡ true → None ≡ option_map (λ (t : ℕ). pos t) (first_inside m v (look_of APW set)) → apw_hit m v time set ≡ None
no_hit_found m v time set active same = rw (active, none_found (first_inside m v (look_of APW set)) same) refl

by_found : (set : Set) (b : Bool) (found : Option ℕ) (t : ℕ) → b ≡ true → found ≡ Some t → (if b then option_map (λ (t : ℕ). hit_from set.urgent (pos t)) found else None) ≡ Some (hit_from set.urgent (pos t))
by_found set b found t active same = rw (active, same) refl

pub hit_found : (m : Motion) (v : Volume) (time : ℤ) (set : Set) (first : ℤ) → is_active v time ≡ true → Some first ≡ option_map (λ (t : ℕ). pos t) (first_inside m v (look_of APW set)) → (t : ℕ) × (first ≡ pos t) × (apw_hit m v time set ≡ Some (hit_from set.urgent (pos t)))
hit_found m v time set first active same =
    let found = some_found (first_inside m v (look_of APW set)) first same in
    (found.0, found.2, by_found set (is_active v time) (first_inside m v (look_of APW set)) found.0 active found.1)

-- ---- what the code asks of, and what it asks it of
pub active_same : (v w : Volume) (t time : ℤ) (r : Bool) → v ≡ w → t ≡ time → r ≡ is_active v t → r ≡ is_active w time
active_same v w t time r same_v same_t is = is ∙ ap (λ (volume : Volume). is_active volume t) same_v ∙ ap (λ (tick : ℤ). is_active w tick) same_t

pub found_same : {E : Type 0} (m : Motion) (v w : Volume) (k look : ℕ) (r : Result (Option ℤ) E) → v ≡ w → k ≡ look → IfOk r (λ first. first ≡ option_map (λ (t : ℕ). pos t) (first_inside m v k)) → IfOk r (λ first. first ≡ option_map (λ (t : ℕ). pos t) (first_inside m w look))
found_same m v w k look (Ok first) same_v same_k is = is ∙ ap (λ (volume : Volume). option_map (λ (t : ℕ). pos t) (first_inside m volume k)) same_v ∙ ap (λ (l : ℕ). option_map (λ (t : ℕ). pos t) (first_inside m w l)) same_k
found_same m v w k look (Err e) same_v same_k is = is

pub ahead_same : {E X : Type 0} (m : Motion) (v w : Volume) (k look : ℕ) (r : Result X E) (e : E) → v ≡ w → k ≡ look → r ≡ Err e → OnErr r (IsAheadInBand m v k) → IsAheadInBand m w look
ahead_same m v w k look r e same_v same_k fails ahead = rw (fails, same_v, same_k) at ahead
