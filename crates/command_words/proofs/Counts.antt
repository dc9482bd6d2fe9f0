-- How many feeds there may be.
use Rattle.std.proofs.Common.{◌≡◌, ◌<◌, ◌≤◌, ◌-◌, ◌^◌, ℕ, List, length, min, Ok, Err, arith, refl}
use Rattle.std.proofs.lemmas.Bool.{le-leb, lt-leb}
use Rattle.command_words.specs.Plans.{counted}
use Rattle.command_words.specs.declared.plan.WordsFault.TheVariants.{Feeds}

pub counted_few : (feeds : List (List ℕ)) → 1 ≤ length feeds → length feeds ≤ 8 → counted feeds ≡ Ok feeds
counted_few feeds some few = rw (le-leb 1 (length feeds) some, le-leb (length feeds) 8 few) refl

pub counted_none : (feeds : List (List ℕ)) → length feeds < 1 → counted feeds ≡ Err (Feeds (min (length feeds) (2 ^ 32 - 1)))
counted_none feeds none = rw (lt-leb 1 (length feeds) none) refl

pub counted_many : (feeds : List (List ℕ)) → 8 < length feeds → counted feeds ≡ Err (Feeds (min (length feeds) (2 ^ 32 - 1)))
counted_many feeds many = let some : 1 ≤ length feeds = omega arith in rw (le-leb 1 (length feeds) some, lt-leb (length feeds) 8 many) refl
