-- Which of two records of a track tells it better (this project's profile).
use Rattle.std.specs.Prelude.{◌≡◌, ◌⊎◌, ◌<◌, ◌<ℤ◌, Bool}
use Rattle.std.specs.declared.cmp.Ordering.{Ordering}
use Rattle.std.specs.Ordering.{int_cmp, is_gt, nat_cmp, ordering_then}
use Rattle.track_motion.specs.declared.rank.Stamped.{Stamped}

-- records in order: the later time is above, at a tie the lower feed, at a tie of both the later place
abbrev pub rank_cmp : Stamped → Stamped → Ordering
rank_cmp a b = ordering_then (int_cmp a.at b.at) (ordering_then (nat_cmp b.feed a.feed) (nat_cmp a.place b.place))

-- a is above b in this order
abbrev pub outranks : Stamped → Stamped → Bool
outranks a b = is_gt (rank_cmp a b)

-- the same in words
abbrev pub OutranksInFeed : Stamped → Stamped → Type 0
OutranksInFeed a b = (a.feed ≡ b.feed) × (b.place < a.place)

abbrev pub OutranksAtTime : Stamped → Stamped → Type 0
OutranksAtTime a b = (a.at ≡ b.at) × ((a.feed < b.feed) ⊎ OutranksInFeed a b)

abbrev pub Outranks : Stamped → Stamped → Type 0
Outranks a b = (b.at <ℤ a.at) ⊎ OutranksAtTime a b
