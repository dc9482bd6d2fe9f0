-- Numbers that are held against limits.
use Rattle.std.proofs.Common.{◌≡◌, ◌^◌, ◌≤◌, ℤ, pos, ◌+ℤ◌, ◌-ℤ◌, ◌*ℤ◌, ◌<ℤ◌, arith}
use Rattle.std.specs.Int.RustNames.{unsigned_abs}
use Rattle.std.proofs.lemmas.Int.{ints}
use Rattle.tick_sets.specs.Inequalities.{line_at}
use Rattle.tick_sets.specs.Ticks.{AreTicksWhere}
use Rattle.tick_sets.specs.declared.Ticks.{Ticks}
use Rattle.approach_funnel.specs.Lines.{IsBeyond, IsLimit, IsNear}
use Rattle.approach_funnel.proofs.Products.{product_within, spread}
use Rattle.approach_funnel.proofs.Where.{where_same}

pub record BalanceFits (weight share distance number : ℤ) : Type 0 where
  pub weighed : unsigned_abs (weight *ℤ number) ≤ 2 ^ 76
  pub shared : unsigned_abs (share *ℤ distance) ≤ 2 ^ 64
  pub whole : unsigned_abs (weight *ℤ number -ℤ share *ℤ distance) ≤ 2 ^ 77

pub balance_fits : (weight share base distance number : ℤ) → IsLimit weight share base → IsNear distance → IsNear number → BalanceFits weight share distance number
balance_fits weight share base distance number limit far wide =
    let weighed = product_within weight number (2 ^ 28) (2 ^ 48) limit.weight_range wide in
    let shared = product_within share distance (2 ^ 16) (2 ^ 48) limit.share_range far in
    record { weighed = omega arith; shared = omega arith; whole = omega (arith, ints) }

-- what is beyond the limit, as a line over the ticks
beyond_line : (weight share base d d_change n n_change t : ℤ) →
    weight *ℤ line_at n_change n t -ℤ (base +ℤ share *ℤ line_at d_change d t) ≡ line_at (weight *ℤ n_change -ℤ share *ℤ d_change) (weight *ℤ n -ℤ share *ℤ d -ℤ base) t
beyond_line weight share base d d_change n n_change t = simp spread (omega (arith, ints))

pub where_beyond : (weight share base d d_change n n_change l : ℤ) (ticks : Ticks) →
    AreTicksWhere (λ t. pos 0 <ℤ line_at (weight *ℤ n_change -ℤ share *ℤ d_change) (weight *ℤ n -ℤ share *ℤ d -ℤ base) t) l ticks →
    AreTicksWhere (λ t. IsBeyond weight share base (line_at d_change d t) (line_at n_change n t)) l ticks
where_beyond weight share base d d_change n n_change l ticks = where_same _ _ l ticks
    (λ t h. let is = beyond_line weight share base d d_change n n_change t in omega (arith, ints))
    (λ t h. let is = beyond_line weight share base d d_change n n_change t in omega (arith, ints))
