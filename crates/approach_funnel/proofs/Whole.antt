-- From the first ticks of the four ways to deviate to the hit.
use Rattle.std.proofs.Common.{◌≡◌, refl, sym, ap, ◌∙◌, ℕ, ℤ, pos, Bool, true, false, ◌&&◌, ◌||◌, Option, Some, None, ◌↔◌, cond, option_map, int_le}
use Rattle.std.specs.Prelude.{IsTrue}
use Rattle.std.proofs.lemmas.Bool.{and_from, and_parts, or_left, or_right}
use Rattle.site_types.specs.Looks.{look_of}
use Rattle.site_types.specs.declared.funnel.Funnel.{Funnel}
use Rattle.site_types.specs.declared.site.Set.{Set}
use Rattle.site_types.specs.declared.net.TheConstants.{APM}
use Rattle.tick_sets.specs.Searches.{IsFirstPass}
use Rattle.track_motion.specs.declared.motion.Motion.{Motion}
use Rattle.approach_funnel.specs.declared.firsts.Firsts.{Firsts}
use Rattle.approach_funnel.specs.declared.hit.FunnelHit.{FunnelHit}
use Rattle.approach_funnel.specs.Apm.{apm_hit, first_deviation, hit_at, is_above, is_before, is_below, is_captured, is_left, is_deviating, is_right}
use Rattle.approach_funnel.specs.Firsts.{AreFirsts, least_of}
use Rattle.approach_funnel.proofs.Flags.{flag_is}
use Rattle.approach_funnel.proofs.Searches.{FindsAt, FindsEach, OnlyFinds, earlier_finds, finds_at, finds_same, found_none, found_some}

-- ---- one of four before the threshold, and one of four that are each before it
grouped : (x l r : Bool) → ((x || l) || r) ≡ (x || (l || r))
grouped true l r = refl
grouped false l r = refl

distributed : (d b a l r : Bool) → (((d && b) || (d && a)) || ((d && l) || (d && r))) ≡ (d && (((b || a) || l) || r))
distributed true b a l r = sym (grouped (b || a) l r)
distributed false b a l r = refl

-- ---- the least of the four is the first tick at which the track deviates
pub least_finds : FindsEach → (f : Funnel) (m : Motion) (look : ℕ) (firsts : Firsts) → AreFirsts f m look firsts → FindsAt (λ t. is_deviating f m (pos t)) look (least_of firsts)
least_finds finds f m look firsts are =
    finds_same
    (λ t. ((is_before f m (pos t) && is_below f m (pos t)) || (is_before f m (pos t) && is_above f m (pos t))) || ((is_before f m (pos t) && is_left f m (pos t)) || (is_before f m (pos t) && is_right f m (pos t))))
    (λ t. is_deviating f m (pos t)) look (least_of firsts)
    (λ t. distributed (is_before f m (pos t)) (is_below f m (pos t)) (is_above f m (pos t)) (is_left f m (pos t)) (is_right f m (pos t)))
    (earlier_finds
    (λ t. (is_before f m (pos t) && is_below f m (pos t)) || (is_before f m (pos t) && is_above f m (pos t)))
    (λ t. (is_before f m (pos t) && is_left f m (pos t)) || (is_before f m (pos t) && is_right f m (pos t)))
    look _ _
    (earlier_finds (λ t. is_before f m (pos t) && is_below f m (pos t)) (λ t. is_before f m (pos t) && is_above f m (pos t)) look firsts.below firsts.above
    (finds_at finds _ look firsts.below are.below) (finds_at finds _ look firsts.above are.above))
    (earlier_finds (λ t. is_before f m (pos t) && is_left f m (pos t)) (λ t. is_before f m (pos t) && is_right f m (pos t)) look firsts.left firsts.right
    (finds_at finds _ look firsts.left are.left) (finds_at finds _ look firsts.right are.right)))

-- ---- no hit
pub no_hit_uncaptured : (m : Motion) (f : Funnel) (set : Set) → is_captured f m ≡ false → apm_hit m f set ≡ None
no_hit_uncaptured m f set fails = rw fails refl

by_found : (m : Motion) (f : Funnel) (set : Set) (captured : Bool) (found o : Option ℕ) → captured ≡ true → found ≡ o → cond captured (option_map (λ (t : ℕ). hit_at f m set (pos t)) found) None ≡ option_map (λ (t : ℕ). hit_at f m set (pos t)) o
by_found m f set captured found o holds is = rw (holds, is) refl

pub no_hit_inside : OnlyFinds → (m : Motion) (f : Funnel) (set : Set) → is_captured f m ≡ true → FindsAt (λ t. is_deviating f m (pos t)) (look_of APM set) None → apm_hit m f set ≡ None
no_hit_inside only m f set captured fails = by_found m f set (is_captured f m) (first_deviation f m (look_of APM set)) None captured (found_none only (λ t. is_deviating f m (pos t)) (look_of APM set) fails)

-- ---- a hit
hit_same : (hit : FunnelHit) (first : ℤ) (below above left right urgent : Bool) → hit.first ≡ first → hit.below ≡ below → hit.above ≡ above → hit.left ≡ left → hit.right ≡ right → hit.urgent ≡ urgent →
    hit ≡ record { first = first; below = below; above = above; left = left; right = right; urgent = urgent }
hit_same hit first below above left right urgent first_is below_is above_is left_is right_is urgent_is =
    rw (sym first_is, sym below_is, sym above_is, sym left_is, sym right_is, sym urgent_is) refl

-- what the code tells of the hit
pub record IsTold (firsts : Firsts) (set : Set) (first : ℤ) (hit : FunnelHit) : Type 0 where
  pub first_is : hit.first ≡ first
  pub below : IsTrue hit.below ↔ (firsts.below ≡ Some first)
  pub above : IsTrue hit.above ↔ (firsts.above ≡ Some first)
  pub left : IsTrue hit.left ↔ (firsts.left ≡ Some first)
  pub right : IsTrue hit.right ↔ (firsts.right ≡ Some first)
  pub urgent : hit.urgent ≡ int_le first set.urgent

told_is : FindsEach → (f : Funnel) (m : Motion) (set : Set) (look n : ℕ) (firsts : Firsts) (hit : FunnelHit) → AreFirsts f m look firsts → IsFirstPass (λ t. is_deviating f m (pos t)) look n → IsTold firsts set (pos n) hit →
    hit ≡ hit_at f m set (pos n)
told_is finds f m set look n firsts hit are first told =
    let before = (and_parts _ _ first.passes).0 in
    hit_same hit (pos n) (is_below f m (pos n)) (is_above f m (pos n)) (is_left f m (pos n)) (is_right f m (pos n)) (int_le (pos n) set.urgent) told.first_is
    (flag_is (λ t. is_before f m (pos t)) (λ t. is_below f m (pos t)) (λ t. is_deviating f m (pos t)) look n firsts.below hit.below
    (λ t d k. and_from _ _ d (or_left _ _ (or_left _ _ (or_left _ _ k)))) before first (finds_at finds _ look firsts.below are.below) told.below)
    (flag_is (λ t. is_before f m (pos t)) (λ t. is_above f m (pos t)) (λ t. is_deviating f m (pos t)) look n firsts.above hit.above
    (λ t d k. and_from _ _ d (or_left _ _ (or_left _ _ (or_right _ _ k)))) before first (finds_at finds _ look firsts.above are.above) told.above)
    (flag_is (λ t. is_before f m (pos t)) (λ t. is_left f m (pos t)) (λ t. is_deviating f m (pos t)) look n firsts.left hit.left
    (λ t d k. and_from _ _ d (or_left _ _ (or_right _ _ k))) before first (finds_at finds _ look firsts.left are.left) told.left)
    (flag_is (λ t. is_before f m (pos t)) (λ t. is_right f m (pos t)) (λ t. is_deviating f m (pos t)) look n firsts.right hit.right
    (λ t d k. and_from _ _ d (or_right _ _ k)) before first (finds_at finds _ look firsts.right are.right) told.right)
    told.urgent

pub hit_is : FindsEach → OnlyFinds → (m : Motion) (f : Funnel) (set : Set) (firsts : Firsts) (first : ℤ) (hit : FunnelHit) → is_captured f m ≡ true → AreFirsts f m (look_of APM set) firsts →
    FindsAt (λ t. is_deviating f m (pos t)) (look_of APM set) (Some first) → IsTold firsts set first hit → Some hit ≡ apm_hit m f set
hit_is finds only m f set firsts first hit captured are (n, is, pass) told =
    ap Some (told_is finds f m set (look_of APM set) n firsts hit are pass (rw is at told)) ∙
    sym (by_found m f set (is_captured f m) (first_deviation f m (look_of APM set)) (Some n) captured (found_some only (λ t. is_deviating f m (pos t)) (look_of APM set) n pass))
