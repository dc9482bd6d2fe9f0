-- No two records of all feeds have the same rank.
use Rattle.std.proofs.Common.{◌≡◌, ℕ, ◌+◌, ◌≤◌, ◌⊎◌, inl, inr, List, [], ◌∷◌, ℤ, refl, ap, sym, ◌∙◌, arith}
use Rattle.std.specs.List.{All, AllByRecursion, Contains, enumerate_from, flat_map}
use Rattle.std.proofs.lemmas.List.Elements.{All-append, All-contains, All-from_recursion, All-nil, All-weaker, Contains-append_cases}
use Rattle.track_motion.specs.declared.rank.Stamped.{Stamped}
use Rattle.track_motion.specs.declared.track.Track.{Track}
use Rattle.track_table.specs.Order.{AreRanked}
use Rattle.track_table.specs.Stamps.{Clock, clock_after, clock_at_start, stamp_of, stamps_from, stamps_of, stamps_of_feeds}
use Rattle.track_table.proofs.Orders.{same_rank}
use Rattle.track_table.proofs.Same.{first_or_later, in_none}
use Rattle.track_table.proofs.TableRows.{each_weaker}

-- ---- in one feed

-- at a place of a feed, or behind it
pub record IsFrom (feed place : ℕ) (s : Stamped) : Type 0 where
  pub feed_is : s.feed ≡ feed
  pub behind : place ≤ s.place

from_place : (clock : Clock) (feed place : ℕ) (tracks : List Track) → AllByRecursion (IsFrom feed place) (stamps_from clock feed place tracks)
from_place clock feed place [] = tt
from_place clock feed place (t ∷ ts) = (
  record { feed_is = refl; behind = omega arith },
  each_weaker (IsFrom feed (place + 1)) (IsFrom feed place) (λ s is. let behind = is.behind in record { feed_is = is.feed_is; behind = omega arith })
      (stamps_from (clock_after clock t) feed (place + 1) ts) (from_place (clock_after clock t) feed (place + 1) ts),
)

are_from : (clock : Clock) (feed place : ℕ) (tracks : List Track) → All (IsFrom feed place) (stamps_from clock feed place tracks)
are_from clock feed place tracks = All-from_recursion (IsFrom feed place) (stamps_from clock feed place tracks) (from_place clock feed place tracks)

before_it : (s a b : Stamped) (feed : ℕ) → s ≡ a → a.place ≡ b.place → IsFrom feed (s.place + 1) b → ⊥
before_it s a b feed is same from =
    let here = ap (λ (r : Stamped). r.place) is in
    let behind = from.behind in
    omega arith

one_at : (s a b : Stamped) (feed : ℕ) (ss : List Stamped) → All (IsFrom feed (s.place + 1)) ss → (Contains ss a → Contains ss b → a ≡ b) → a.place ≡ b.place →
    (s ≡ a) ⊎ Contains ss a → (s ≡ b) ⊎ Contains ss b → a ≡ b
one_at s a b feed ss all again same (inl is_a) (inl is_b) = sym is_a ∙ is_b
one_at s a b feed ss all again same (inl is_a) (inr has_b) = absurd (before_it s a b feed is_a same (All-contains (IsFrom feed (s.place + 1)) ss b all has_b))
one_at s a b feed ss all again same (inr has_a) (inl is_b) = absurd (before_it s b a feed is_b (sym same) (All-contains (IsFrom feed (s.place + 1)) ss a all has_a))
one_at s a b feed ss all again same (inr has_a) (inr has_b) = again has_a has_b

-- at a place of a feed is one record
one_of_feed : (clock : Clock) (feed place : ℕ) (tracks : List Track) (a b : Stamped) → a.place ≡ b.place → Contains (stamps_from clock feed place tracks) a → Contains (stamps_from clock feed place tracks) b → a ≡ b
one_of_feed clock feed place [] a b same has_a has_b = absurd (in_none a has_a)
one_of_feed clock feed place (t ∷ ts) a b same has_a has_b =
    let s = stamp_of clock feed place t in
    let rest = stamps_from (clock_after clock t) feed (place + 1) ts in
    one_at s a b feed rest (are_from (clock_after clock t) feed (place + 1) ts) (one_of_feed (clock_after clock t) feed (place + 1) ts a b same) same
    (first_or_later s rest a has_a) (first_or_later s rest b has_b)

-- ---- in all feeds

-- the stamps of feeds that are numbered from n
abbrev stamps_from_feed : ℤ → ℤ → ℕ → List (List Track) → List Stamped
stamps_from_feed start period n feeds = flat_map (λ feed. stamps_of start period feed.0 feed.1) (enumerate_from n feeds)

of_feed : (start period : ℤ) (n : ℕ) (tracks : List Track) → All (λ s. s.feed ≡ n) (stamps_of start period n tracks)
of_feed start period n tracks = All-weaker (IsFrom n 0) (λ s. s.feed ≡ n) (λ s is. is.feed_is) (stamps_of start period n tracks) (are_from (clock_at_start start period) n 0 tracks)

from_feed : (start period : ℤ) (n : ℕ) (feeds : List (List Track)) → All (λ s. n ≤ s.feed) (stamps_from_feed start period n feeds)
from_feed start period n [] = All-nil (λ (s : Stamped). n ≤ s.feed)
from_feed start period n (tracks ∷ feeds) =
    All-append (λ (s : Stamped). n ≤ s.feed) (stamps_of start period n tracks) (stamps_from_feed start period (n + 1) feeds)
    (All-weaker (λ s. s.feed ≡ n) (λ s. n ≤ s.feed) (λ s is. omega arith) (stamps_of start period n tracks) (of_feed start period n tracks))
    (All-weaker (λ s. n + 1 ≤ s.feed) (λ s. n ≤ s.feed) (λ s is. omega arith) (stamps_from_feed start period (n + 1) feeds) (from_feed start period (n + 1) feeds))

other_feed : (a b : Stamped) (n : ℕ) → a.feed ≡ b.feed → a.feed ≡ n → n + 1 ≤ b.feed → ⊥
other_feed a b n same at from = omega arith

one_in : (start period : ℤ) (n : ℕ) (tracks : List Track) (feeds : List (List Track)) (a b : Stamped) → a.feed ≡ b.feed → a.place ≡ b.place →
    (Contains (stamps_from_feed start period (n + 1) feeds) a → Contains (stamps_from_feed start period (n + 1) feeds) b → a ≡ b) →
    Contains (stamps_of start period n tracks) a ⊎ Contains (stamps_from_feed start period (n + 1) feeds) a →
    Contains (stamps_of start period n tracks) b ⊎ Contains (stamps_from_feed start period (n + 1) feeds) b → a ≡ b
one_in start period n tracks feeds a b feed place again (inl has_a) (inl has_b) = one_of_feed (clock_at_start start period) n 0 tracks a b place has_a has_b
one_in start period n tracks feeds a b feed place again (inl has_a) (inr has_b) =
    absurd (other_feed a b n feed (All-contains (λ s. s.feed ≡ n) (stamps_of start period n tracks) a (of_feed start period n tracks) has_a)
    (All-contains (λ s. n + 1 ≤ s.feed) (stamps_from_feed start period (n + 1) feeds) b (from_feed start period (n + 1) feeds) has_b))
one_in start period n tracks feeds a b feed place again (inr has_a) (inl has_b) =
    absurd (other_feed b a n (sym feed) (All-contains (λ s. s.feed ≡ n) (stamps_of start period n tracks) b (of_feed start period n tracks) has_b)
    (All-contains (λ s. n + 1 ≤ s.feed) (stamps_from_feed start period (n + 1) feeds) a (from_feed start period (n + 1) feeds) has_a))
one_in start period n tracks feeds a b feed place again (inr has_a) (inr has_b) = again has_a has_b

-- in all feeds is one record of a feed and a place
one_of_feeds : (start period : ℤ) (n : ℕ) (feeds : List (List Track)) (a b : Stamped) → a.feed ≡ b.feed → a.place ≡ b.place →
    Contains (stamps_from_feed start period n feeds) a → Contains (stamps_from_feed start period n feeds) b → a ≡ b
one_of_feeds start period n [] a b feed place has_a has_b = absurd (in_none a has_a)
one_of_feeds start period n (tracks ∷ feeds) a b feed place has_a has_b =
    let here = stamps_of start period n tracks in
    let rest = stamps_from_feed start period (n + 1) feeds in
    one_in start period n tracks feeds a b feed place (one_of_feeds start period (n + 1) feeds a b feed place)
    (Contains-append_cases here rest a has_a) (Contains-append_cases here rest b has_b)

pub feeds_ranked : (start period : ℤ) (feeds : List (List Track)) → AreRanked (stamps_of_feeds start period feeds)
feeds_ranked start period feeds = λ a b has_a has_b ab ba.
    let same = same_rank a b ab ba in
    one_of_feeds start period 0 feeds a b same.0 same.1 has_a has_b
