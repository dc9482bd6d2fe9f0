-- What the laws of the definitions say of the stamps of feeds.
use Rattle.std.proofs.Common.{◌≡◌, ◌+◌, ◌<◌, ◌≤◌, ℕ, ℤ, pos, ◌≤ℤ◌, ◌<ℤ◌, List, [], ◌∷◌, ◌++◌, length, map, refl, sym, ap, subst, arith, length-append}
use Rattle.std.specs.List.{All, AllByRecursion, Contains, enumerate_from, flat_map}
use Rattle.std.specs.List.Sorted.{IsNonDecreasingBy}
use Rattle.std.proofs.lemmas.List.Elements.{All-from_recursion, recursion_from_All}
use Rattle.cat062_read.specs.declared.record.Raw062.{Raw062}
use Rattle.site_types.specs.declared.site.Site.{Site}
use Rattle.track_motion.specs.declared.motion.TheConstants.{LONGEST_AGE}
use Rattle.track_motion.specs.declared.rank.Stamped.{Stamped}
use Rattle.track_motion.specs.declared.track.Track.{Track}
use Rattle.track_table.specs.declared.clock.TheConstants.{MOST_TRACKS}
use Rattle.track_table.specs.Cycles.{cycles_of}
use Rattle.track_table.specs.Kept.{AreDue}
use Rattle.track_table.specs.Order.{AreRanked, AreSame}
use Rattle.track_table.specs.Proper.{IsProper, IsTold, frozen_of}
use Rattle.track_table.specs.Stamps.{clock_after, clock_of, stamp_of, stamps_from, stamps_of, stamps_of_feeds}
use Rattle.track_table.specs.Tables.{due, table}
use Rattle.track_table.specs.Times.{AreDayCycles, IsTime, cycle_time}
use Rattle.feed_reader.specs.Content.{Content}
use Rattle.feed_reader.specs.Feeds.{AreTellable, IsTellable}
use Rattle.feed_threads.specs.Reference.{cycles, stamps, stamps_told, tracks, tracks_of}
use Rattle.feed_threads.specs.Rows.{IsTimed}
use Rattle.feed_threads.proofs.Sites.{period_low}
use Rattle.feed_threads.proofs.Stamping.{day_cycles, usable_tracks}
use Rattle.feed_threads.proofs.Windows.{all_stamps}

-- what the laws say of the stamps of these feeds
pub record AreLawful (site : Site) (inputs : List Content) : Type 0 where
  pub rising : (feed : ℕ) (raws : List Raw062) → IsNonDecreasingBy (λ s. s.window) (stamps_told site feed raws)
  pub inside : All (λ s. s.at <ℤ cycle_time site.start site.period s.window) (stamps site inputs)
  pub times : All (λ s. IsTime (cycle_time site.start site.period s.window)) (stamps site inputs)
  pub earlier : (k l : ℕ) → k ≤ l → IsTime (cycle_time site.start site.period l) → IsTime (cycle_time site.start site.period k)
  pub in_order : (k l : ℕ) → k ≤ l → cycle_time site.start site.period k ≤ℤ cycle_time site.start site.period l
  pub same_table : (k : ℕ) (others : List Stamped) → AreSame (due k (stamps site inputs)) (due k others) → table site.start site.period site.timeout k (stamps site inputs) ≡ table site.start site.period site.timeout k others
  pub all_due : (k : ℕ) (records : List Stamped) → AreDue k records → due k records ≡ records
  pub proper : (k : ℕ) (records : List Stamped) → All (IsTold site.start site.period) records → IsProper (frozen_of site.start site.period site.timeout k records)
  pub within : (s : Stamped) → Contains (stamps site inputs) s → s.window < cycles site inputs
  pub few : (k : ℕ) → All (λ s. s.window < k) (stamps site inputs) → cycles site inputs ≤ k

-- the stamps of feeds are those of their tracks
same_stamps : (site : Site) (n : ℕ) (inputs : List Content) →
    flat_map (λ feed. stamps_told site feed.0 feed.1.records) (enumerate_from n inputs) ≡ flat_map (λ feed. stamps_of site.start site.period feed.0 feed.1) (enumerate_from n (map (tracks site) inputs))
same_stamps site n [] = refl
same_stamps site n (input ∷ inputs) = ap (λ (ss : List Stamped). stamps_told site n input.records ++ ss) (same_stamps site (n + 1) inputs)

-- what each feed has, each has with its number
with_numbers : (P : ℕ × Content → Type 0) (n : ℕ) (inputs : List Content) → ((feed : ℕ) (input : Content) → IsTellable input → P (feed, input)) → AllByRecursion IsTellable inputs → AllByRecursion P (enumerate_from n inputs)
with_numbers P n [] each tellable = tt
with_numbers P n (input ∷ inputs) each tellable = (each n input tellable.0, with_numbers P (n + 1) inputs each tellable.1)

all_of_feeds : (P : Stamped → Type 0) (site : Site) (inputs : List Content) → ((feed : ℕ) (input : Content) → IsTellable input → All P (stamps_told site feed input.records)) → AreTellable inputs → All P (stamps site inputs)
all_of_feeds P site inputs each tellable =
    let f : ℕ × Content → List Stamped = λ feed. stamps_told site feed.0 feed.1.records in
    all_stamps f P (enumerate_from 0 inputs) (with_numbers (λ e. All P (f e)) 0 inputs each (recursion_from_All IsTellable inputs tellable))

-- a feed's clock goes on from track to track
abbrev pub GoesOn : Type 0
GoesOn = (start period : ℤ) (tracks : List Track) (track : Track) → clock_of start period (tracks ++ track ∷ []) ≡ clock_after (clock_of start period tracks) track

-- the window of the next track ends at a time
abbrev pub EndsInTime : Type 0
EndsInTime = (start period : ℤ) (feed place : ℕ) (tracks : List Track) (track : Track) → AreDayCycles start period → length tracks < MOST_TRACKS
    → IsTime (cycle_time start period (stamp_of (clock_of start period tracks) feed place track).window)

feed_in_time : (start period : ℤ) (feed : ℕ) (before more : List Track) → GoesOn → EndsInTime → AreDayCycles start period → length before + length more ≤ MOST_TRACKS →
    AllByRecursion (λ s. IsTime (cycle_time start period s.window)) (stamps_from (clock_of start period before) feed (length before) more)
feed_in_time start period feed before [] goes_on ends cycles few = tt
feed_in_time start period feed before (track ∷ more) goes_on ends cycles few =
    let long : length (before ++ track ∷ []) ≡ length before + 1 = length-append before (track ∷ []) in (
      ends start period feed (length before) before track cycles (omega arith),
      rw (goes_on start period before track, long) at (feed_in_time start period feed (before ++ track ∷ []) more goes_on ends cycles (omega arith)),
    )

told_in_time : (site : Site) (feed : ℕ) (input : Content) → GoesOn → EndsInTime → IsTimed site → IsTellable input → All (λ s. IsTime (cycle_time site.start site.period s.window)) (stamps_told site feed input.records)
told_in_time site feed input goes_on ends timed tellable =
    let few = tellable.few in
    let many = usable_tracks site.qnh input.records in
    All-from_recursion (λ s. IsTime (cycle_time site.start site.period s.window)) (stamps_told site feed input.records)
    (feed_in_time site.start site.period feed [] (tracks_of site input.records) goes_on ends (day_cycles site timed) (omega arith))

pub lawful : (site : Site) (inputs : List Content) → IsTimed site → AreTellable inputs → GoesOn → EndsInTime
    → ((start period : ℤ) (feed : ℕ) (tracks : List Track) → pos 1 ≤ℤ period → IsNonDecreasingBy (λ s. s.window) (stamps_of start period feed tracks))
    → ((start period : ℤ) (feed : ℕ) (tracks : List Track) → pos 1 ≤ℤ period → All (λ s. s.at <ℤ cycle_time start period s.window) (stamps_of start period feed tracks))
    → ((start period : ℤ) (k l : ℕ) → AreDayCycles start period → k ≤ l → IsTime (cycle_time start period l) → IsTime (cycle_time start period k))
    → ((start period : ℤ) (k l : ℕ) → pos 0 ≤ℤ period → k ≤ l → cycle_time start period k ≤ℤ cycle_time start period l)
    → ((start period : ℤ) (feeds : List (List Track)) → AreRanked (stamps_of_feeds start period feeds))
    → ((start period timeout : ℤ) (k : ℕ) (records others : List Stamped) → AreRanked records → AreSame (due k records) (due k others) → table start period timeout k records ≡ table start period timeout k others)
    → ((k : ℕ) (records : List Stamped) → AreDue k records → due k records ≡ records)
    → ((start period timeout : ℤ) (k : ℕ) (records : List Stamped) → pos 0 ≤ℤ period → timeout ≤ℤ pos LONGEST_AGE → All (IsTold start period) records → IsProper (frozen_of start period timeout k records))
    → ((records : List Stamped) (r : Stamped) → Contains records r → r.window < cycles_of records)
    → ((records : List Stamped) (k : ℕ) → All (λ r. r.window < k) records → cycles_of records ≤ k)
    → AreLawful site inputs
lawful site inputs timed tellable goes_on ends rising inside earlier in_order ranked same_table all_due proper within few = record {
  rising = λ feed raws. rising site.start site.period feed (tracks_of site raws) timed.period_low;
  inside = all_of_feeds (λ s. s.at <ℤ cycle_time site.start site.period s.window) site inputs (λ feed input is. inside site.start site.period feed (tracks_of site input.records) timed.period_low) tellable;
  times = all_of_feeds (λ s. IsTime (cycle_time site.start site.period s.window)) site inputs (λ feed input is. told_in_time site feed input goes_on ends timed is) tellable;
  earlier = λ k l order time. earlier site.start site.period k l (day_cycles site timed) order time;
  in_order = λ k l order. in_order site.start site.period k l (period_low site timed) order;
  same_table = λ k others same. same_table site.start site.period site.timeout k (stamps site inputs) others
      (subst AreRanked (sym (same_stamps site 0 inputs)) (ranked site.start site.period (map (tracks site) inputs))) same;
  all_due = all_due;
  proper = λ k records told. proper site.start site.period site.timeout k records (period_low site timed) timed.timeout_high told;
  within = within (stamps site inputs);
  few = few (stamps site inputs);
}
