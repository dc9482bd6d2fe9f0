-- The ticks at which a track is beyond a side or a slope.
use Rattle.std.proofs.Common.{◌≡◌, refl, sym, ℤ, pos, ◌*ℤ◌, neg_ℤ, ◌<ℤ◌, arith}
use Rattle.std.proofs.lemmas.Int.{ints}
use Rattle.site_types.specs.declared.funnel.Funnel.{Funnel}
use Rattle.tick_sets.specs.Inequalities.{line_at}
use Rattle.tick_sets.specs.Ticks.{AreTicksWhere}
use Rattle.tick_sets.specs.declared.Ticks.{Ticks}
use Rattle.track_motion.specs.declared.motion.Motion.{Motion}
use Rattle.approach_funnel.specs.Apm.{beside, height_over, side_at}
use Rattle.approach_funnel.specs.Approaches.{altitude, distance, length_of, offset}
use Rattle.approach_funnel.specs.Deviations.{IsAbove, IsBelow, IsLeft, IsRight}
use Rattle.approach_funnel.specs.Lines.{Changes, IsBeyond}
use Rattle.approach_funnel.specs.declared.units.TheConstants.{RUN_LENGTH, RUN_METRES, RUN_SHARE, STEP_SHARE}
use Rattle.approach_funnel.proofs.Moving.{negated_changes}
use Rattle.approach_funnel.proofs.Products.{times_neg}
use Rattle.approach_funnel.proofs.Where.{where_same}

same_beyond : (weight share base d n weight' share' base' d' n' : ℤ) → weight ≡ weight' → share ≡ share' → base ≡ base' → d ≡ d' → n ≡ n' → IsBeyond weight share base d n → IsBeyond weight' share' base' d' n'
same_beyond weight share base d n weight' share' base' d' n' weight_is share_is base_is d_is n_is beyond = rw (weight_is, share_is, base_is, d_is, n_is) at beyond

-- the ticks of a limit that is known, of lines whose numbers are
pub where_limit : (weight share base w s b d d_change n n_change l : ℤ) (distance_at number_at : ℤ → ℤ) (ticks : Ticks) →
    weight ≡ w → share ≡ s → base ≡ b → Changes distance_at d d_change → Changes number_at n n_change →
    AreTicksWhere (λ t. IsBeyond weight share base (line_at d_change d t) (line_at n_change n t)) l ticks → AreTicksWhere (λ t. IsBeyond w s b (distance_at t) (number_at t)) l ticks
where_limit weight share base w s b d d_change n n_change l distance_at number_at ticks weight_is share_is base_is d_is n_is = where_same _ _ l ticks
    (λ t h. same_beyond weight share base (line_at d_change d t) (line_at n_change n t) w s b (distance_at t) (number_at t) weight_is share_is base_is (sym (d_is t)) (sym (n_is t)) h)
    (λ t h. same_beyond w s b (distance_at t) (number_at t) weight share base (line_at d_change d t) (line_at n_change n t) (sym weight_is) (sym share_is) (sym base_is) (d_is t) (n_is t) h)

-- ---- before the threshold
pub where_before : (f : Funnel) (m : Motion) (d d_change l : ℤ) (ticks : Ticks) → Changes (distance f m) d d_change → AreTicksWhere (λ t. pos 0 <ℤ line_at d_change d t) l ticks → AreTicksWhere (λ t. pos 0 <ℤ distance f m t) l ticks
where_before f m d d_change l ticks d_is = where_same _ _ l ticks (λ t h. rw (d_is t) h) (λ t h. rw (d_is t) at h)

-- ---- beside
abbrev pub IsBeside : Funnel → ℤ → ℤ → Type 0
IsBeside f d c = side_at f f.half f.side d <ℤ beside c

pub where_side : (f : Funnel) (weight share base d d_change n n_change l : ℤ) (ticks : Ticks) → weight ≡ RUN_METRES → share ≡ f.side → base ≡ RUN_LENGTH *ℤ length_of f *ℤ f.half →
    AreTicksWhere (λ t. IsBeyond weight share base (line_at d_change d t) (line_at n_change n t)) l ticks → AreTicksWhere (λ t. IsBeside f (line_at d_change d t) (line_at n_change n t)) l ticks
where_side f weight share base d d_change n n_change l ticks weight_is share_is base_is beyond = rw (weight_is, share_is, base_is) at beyond

where_beside : (f : Funnel) (d d_change n n_change l : ℤ) (distance_at number_at : ℤ → ℤ) (ticks : Ticks) → Changes distance_at d d_change → Changes number_at n n_change →
    AreTicksWhere (λ t. IsBeside f (line_at d_change d t) (line_at n_change n t)) l ticks → AreTicksWhere (λ t. IsBeside f (distance_at t) (number_at t)) l ticks
where_beside f d d_change n n_change l distance_at number_at ticks d_is n_is beside_side =
    where_limit RUN_METRES f.side (RUN_LENGTH *ℤ length_of f *ℤ f.half) RUN_METRES f.side (RUN_LENGTH *ℤ length_of f *ℤ f.half) d d_change n n_change l distance_at number_at ticks refl refl refl d_is n_is beside_side

pub where_right : (f : Funnel) (m : Motion) (d d_change n n_change l : ℤ) (ticks : Ticks) → Changes (distance f m) d d_change → Changes (offset f m) n n_change →
    AreTicksWhere (λ t. IsBeside f (line_at d_change d t) (line_at n_change n t)) l ticks → AreTicksWhere (IsRight f m) l ticks
where_right f m d d_change n n_change l ticks d_is n_is beside_side = where_beside f d d_change n n_change l (distance f m) (offset f m) ticks d_is n_is beside_side

pub where_left : (f : Funnel) (m : Motion) (d d_change n n_change l : ℤ) (ticks : Ticks) → Changes (distance f m) d d_change → Changes (offset f m) n n_change →
    AreTicksWhere (λ t. IsBeside f (line_at d_change d t) (line_at (neg_ℤ n_change) (neg_ℤ n) t)) l ticks → AreTicksWhere (IsLeft f m) l ticks
where_left f m d d_change n n_change l ticks d_is n_is beside_side =
    where_beside f d d_change (neg_ℤ n) (neg_ℤ n_change) l (distance f m) (λ t. neg_ℤ (offset f m t)) ticks d_is (negated_changes (offset f m) n n_change n_is) beside_side

-- ---- above and below
pub where_above_slope : (f : Funnel) (m : Motion) (weight share base d d_change n n_change l : ℤ) (ticks : Ticks) →
    weight ≡ RUN_SHARE *ℤ length_of f → share ≡ STEP_SHARE *ℤ f.high_rise → base ≡ pos 0 → Changes (distance f m) d d_change → Changes (λ t. height_over f f.high_base (altitude m t)) n n_change →
    AreTicksWhere (λ t. IsBeyond weight share base (line_at d_change d t) (line_at n_change n t)) l ticks → AreTicksWhere (IsAbove f m) l ticks
where_above_slope f m weight share base d d_change n n_change l ticks weight_is share_is base_is d_is n_is beyond =
    where_same _ (IsAbove f m) l ticks (λ t h. omega (arith, ints)) (λ t h. omega (arith, ints))
    (where_limit weight share base (RUN_SHARE *ℤ length_of f) (STEP_SHARE *ℤ f.high_rise) (pos 0) d d_change n n_change l (distance f m) (λ t. height_over f f.high_base (altitude m t)) ticks weight_is share_is base_is d_is n_is beyond)

-- where both numbers are negatives
turned : (weight share d n : ℤ) → IsBeyond weight share (pos 0) (neg_ℤ d) (neg_ℤ n) → (weight *ℤ n) <ℤ (share *ℤ d)
turned weight share d n beyond = let weighed = times_neg weight n in let shared = times_neg share d in omega (arith, ints)

turned_back : (weight share d n : ℤ) → (weight *ℤ n) <ℤ (share *ℤ d) → IsBeyond weight share (pos 0) (neg_ℤ d) (neg_ℤ n)
turned_back weight share d n below = let weighed = times_neg weight n in let shared = times_neg share d in omega (arith, ints)

pub where_below_slope : (f : Funnel) (m : Motion) (weight share base d d_change n n_change l : ℤ) (ticks : Ticks) →
    weight ≡ RUN_SHARE *ℤ length_of f → share ≡ STEP_SHARE *ℤ f.low_rise → base ≡ pos 0 → Changes (distance f m) d d_change → Changes (λ t. height_over f f.low_base (altitude m t)) n n_change →
    AreTicksWhere (λ t. IsBeyond weight share base (line_at (neg_ℤ d_change) (neg_ℤ d) t) (line_at (neg_ℤ n_change) (neg_ℤ n) t)) l ticks → AreTicksWhere (IsBelow f m) l ticks
where_below_slope f m weight share base d d_change n n_change l ticks weight_is share_is base_is d_is n_is beyond =
    where_same _ (IsBelow f m) l ticks
    (λ t. turned (RUN_SHARE *ℤ length_of f) (STEP_SHARE *ℤ f.low_rise) (distance f m t) (height_over f f.low_base (altitude m t)))
    (λ t. turned_back (RUN_SHARE *ℤ length_of f) (STEP_SHARE *ℤ f.low_rise) (distance f m t) (height_over f f.low_base (altitude m t)))
    (where_limit weight share base (RUN_SHARE *ℤ length_of f) (STEP_SHARE *ℤ f.low_rise) (pos 0) (neg_ℤ d) (neg_ℤ d_change) (neg_ℤ n) (neg_ℤ n_change) l
    (λ t. neg_ℤ (distance f m t)) (λ t. neg_ℤ (height_over f f.low_base (altitude m t))) ticks weight_is share_is base_is
    (negated_changes (distance f m) d d_change d_is) (negated_changes (λ t. height_over f f.low_base (altitude m t)) n n_change n_is) beyond)
