-- How tracks are named (ASTERIX part 9, items 010 and 040; their order is this project's profile).
use Rattle.std.specs.Prelude.{◌≡◌, ◌⊎◌, ◌<◌}
use Rattle.std.specs.declared.cmp.Ordering.{Ordering}
use Rattle.std.specs.Ordering.{nat_cmp, ordering_then}
use Rattle.track_motion.specs.declared.track.TrackKey.{TrackKey}

-- keys in order: by system area code, then system identification code, then number
abbrev pub key_cmp : TrackKey → TrackKey → Ordering
key_cmp a b = ordering_then (nat_cmp a.sac b.sac) (ordering_then (nat_cmp a.sic b.sic) (nat_cmp a.number b.number))

-- the same in words
abbrev pub IsBelowAtCode : TrackKey → TrackKey → Type 0
IsBelowAtCode a b = (a.sic < b.sic) ⊎ ((a.sic ≡ b.sic) × (a.number < b.number))

abbrev pub IsKeyBelow : TrackKey → TrackKey → Type 0
IsKeyBelow a b = (a.sac < b.sac) ⊎ ((a.sac ≡ b.sac) × IsBelowAtCode a b)
