-- The tracks of a feed, stamped one after the other.
use Rattle.std.proofs.Common.{◌≡◌, ◌∙◌, ℕ, ◌+◌, ◌<◌, ◌≤◌, ℤ, Bool, true, false, cond, List, [], ◌∷◌, ◌++◌, length, Some, None, refl, sym, ap, subst, arith, length-append, w32, to_z, of_z}
use Rattle.std.proofs.lemmas.Int.{fits_signed_from_abs, to_z-of_z}
use Rattle.std.proofs.lemmas.List.Sums.{sum_by-append}
use Rattle.std.specs.Prelude.{count_by}
use Rattle.std.specs.List.{All, cons_option, filter_map}
use Rattle.cat062_read.specs.declared.record.Raw062.{Raw062}
use Rattle.cat062_read.specs.Tracks.{IsPlaced, IsQnh, is_usable, track_from, track_of}
use Rattle.site_types.specs.declared.site.Site.{Site}
use Rattle.track_motion.specs.declared.track.Track.{Track}
use Rattle.track_table.specs.declared.clock.TheConstants.{MOST_TRACKS}
use Rattle.track_table.specs.Stamps.{Clock, clock_after, clock_at_start, clock_of}
use Rattle.track_table.specs.Times.{AreDayCycles, IsTime, at_near}
use Rattle.feed_threads.specs.Cursors.{CanStamp, tracks_from}
use Rattle.feed_threads.specs.Rows.{IsTimed}
use Rattle.feed_reader.specs.declared.input.TheConstants.{MOST_USABLE}

-- ---- how many tracks there are

counted : (usable : Bool) (track : Track) (found : List Track) (n all : ℕ) → length found ≡ n → all ≡ 0 + cond usable 1 0 + n → length (cons_option (cond usable (Some track) None) found) ≡ all
counted true track found n all same is = omega arith
counted false track found n all same is = omega arith

-- there are as many tracks as usable records
pub usable_tracks : (qnh : ℤ) (raws : List Raw062) → length (filter_map (λ raw. track_of raw qnh) raws) ≡ count_by is_usable raws
usable_tracks qnh [] = refl
usable_tracks qnh (raw ∷ raws) =
    counted (is_usable raw) (track_from raw qnh) (filter_map (λ r. track_of r qnh) raws) (count_by is_usable raws) (count_by is_usable (raw ∷ raws)) (usable_tracks qnh raws)
    (sum_by-append (λ (x : Raw062). cond (is_usable x) 1 0) (raw ∷ []) raws)

-- a correction in 32 bits is what it is
pub correction_in : (qnh : ℤ) → IsQnh qnh → to_z w32 (of_z w32 qnh) ≡ qnh
correction_in qnh small = to_z-of_z w32 qnh (fits_signed_from_abs w32 qnh (omega arith))

-- ---- the clock

pub day_cycles : (site : Site) → IsTimed site → AreDayCycles site.start site.period
day_cycles site timed = record { start_low = timed.start_low; start_high = timed.start_high; period_low = timed.period_low; period_high = timed.period_high }

-- before the first record
pub can_begin : (site : Site) (clock : Clock) (qnh : ℤ) (records : List Raw062) → IsTimed site → clock ≡ clock_at_start site.start site.period → qnh ≡ site.qnh → All IsPlaced records → count_by is_usable records ≤ MOST_USABLE →
    CanStamp clock 0 qnh records 0
can_begin site clock qnh records timed is same placed few =
    let small = timed.qnh in
    let many = usable_tracks qnh records in
    record {
      before = [];
      cycles = rw is (day_cycles site timed);
      behind = rw is refl;
      number = refl;
      few = omega arith;
      placed = placed;
      correction = rw same small;
    }

-- the next track can be stamped
pub can_stamp : (clock : Clock) (place at next : ℕ) (qnh : ℤ) (records : List Raw062) (track : Track)
    → ((start period : ℤ) (tracks : List Track) (t : Track) → AreDayCycles start period → length tracks < MOST_TRACKS → IsTime (at_near (clock_of start period tracks).latest t.time))
    → CanStamp clock place qnh records at → tracks_from qnh records at ≡ track ∷ tracks_from qnh records next → IsTime (at_near clock.latest track.time)
can_stamp clock place at next qnh records track law can split =
    let few : length can.before + length (track ∷ tracks_from qnh records next) ≤ MOST_TRACKS = subst (λ ts. length can.before + length ts ≤ MOST_TRACKS) split can.few in
    subst (λ (c : Clock). IsTime (at_near c.latest track.time)) (sym can.behind) (law clock.start clock.period can.before track can.cycles (omega arith))

-- and so can those behind it
pub can_go_on : (clock later : Clock) (place at next : ℕ) (qnh : ℤ) (records : List Raw062) (track : Track)
    → ((start period : ℤ) (tracks : List Track) (t : Track) → clock_of start period (tracks ++ t ∷ []) ≡ clock_after (clock_of start period tracks) t)
    → CanStamp clock place qnh records at → tracks_from qnh records at ≡ track ∷ tracks_from qnh records next → later ≡ clock_after clock track → CanStamp later (place + 1) qnh records next
can_go_on clock later place at next qnh records track law can split is =
    let few : length can.before + length (track ∷ tracks_from qnh records next) ≤ MOST_TRACKS = subst (λ ts. length can.before + length ts ≤ MOST_TRACKS) split can.few in
    let behind : clock_after clock track ≡ clock_of clock.start clock.period (can.before ++ track ∷ []) = ap (λ (c : Clock). clock_after c track) can.behind ∙ sym (law clock.start clock.period can.before track) in
    let long : length (can.before ++ track ∷ []) ≡ length can.before + 1 = length-append can.before (track ∷ []) in
    let number = can.number in
    let still : CanStamp (clock_after clock track) (place + 1) qnh records next = record {
      before = can.before ++ track ∷ [];
      cycles = can.cycles;
      behind = behind;
      number = omega arith;
      few = omega arith;
      placed = can.placed;
      correction = can.correction;
    } in
    subst (λ (c : Clock). CanStamp c (place + 1) qnh records next) (sym is) still
