-- Numbers that change evenly each tick, and limits that widen evenly with a distance (this project's profile: exact in whole numbers).
use Rattle.std.specs.Prelude.{◌≡◌, ◌^◌, ◌≤◌, unsigned_abs, ℤ, ◌+ℤ◌, ◌*ℤ◌, ◌<ℤ◌}
use Rattle.tick_sets.specs.Inequalities.{line_at}

-- at each tick the number is so much more than at tick 0, where it starts
abbrev pub Changes : (ℤ → ℤ) → ℤ → ℤ → Type 0
Changes number start change = (t : ℤ) → number t ≡ line_at change start t

-- a number is near enough to 0
abbrev pub IsNear : ℤ → Type 0
IsNear number = unsigned_abs number ≤ 2 ^ 48

-- where such a number starts and its change each tick
pub record IsDrift (start change : ℤ) : Type 0 where
  pub near : IsNear start
  pub slow : unsigned_abs change ≤ 2 ^ 30

-- the numbers of a limit: a weight for what is held against it, a share of the distance, and what it is without a distance
pub record IsLimit (weight share base : ℤ) : Type 0 where
  pub weight_range : unsigned_abs weight ≤ 2 ^ 28
  pub share_range : unsigned_abs share ≤ 2 ^ 16
  pub base_range : unsigned_abs base ≤ 2 ^ 52

-- at a distance a number is beyond the limit
abbrev pub IsBeyond : ℤ → ℤ → ℤ → ℤ → ℤ → Type 0
IsBeyond weight share base distance number = (base +ℤ share *ℤ distance) <ℤ (weight *ℤ number)

-- at a tick it is, where the distance d and the number n change so much each tick
abbrev pub IsBeyondAt : ℤ → ℤ → ℤ → ℤ → ℤ → ℤ → ℤ → ℤ → Type 0
IsBeyondAt weight share base d d_change n n_change t = IsBeyond weight share base (line_at d_change d t) (line_at n_change n t)
