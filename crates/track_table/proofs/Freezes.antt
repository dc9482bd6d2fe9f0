-- What a table gives and keeps when a cycle's table is taken.
use Rattle.std.proofs.Common.{◌≡◌, ◌≤◌, ℕ, true, not, nat_le, List, [], ◌∷◌, Option, Some, None, ℤ, ◌≤ℤ◌, refl, ap, sym, ◌∙◌, arith}
use Rattle.std.specs.Prelude.{filter}
use Rattle.std.specs.Option.{ForSome}
use Rattle.std.specs.List.{AllByRecursion}
use Rattle.std.specs.Map.{values_of}
use Rattle.std.proofs.lemmas.Bool.{and_parts}
use Rattle.std.proofs.lemmas.Int.{ints}
use Rattle.std.proofs.lemmas.List.Elements.{recursion_from_All}
use Rattle.track_motion.specs.declared.rank.Stamped.{Stamped}
use Rattle.track_motion.specs.declared.track.TrackKey.{TrackKey}
use Rattle.track_table.specs.Kept.{AreDue, counts, entries_of}
use Rattle.track_table.specs.Tables.{due, is_recent, is_row, newest, table}
use Rattle.track_table.specs.Times.{cycle_time}
use Rattle.track_table.proofs.Filters.{entries-filter, filter_all, filter_narrow, values-entries}
use Rattle.track_table.proofs.Puts.{kept_of}

due_each : (k : ℕ) (records : List Stamped) → AllByRecursion (λ r. r.window ≤ k) records → AllByRecursion (λ r. nat_le r.window k ≡ true) records
due_each k [] all = tt
due_each k (r ∷ rs) all = (let now = all.0 in grind arith, due_each k rs all.1)

-- records that are due are all of them
due_all : (k : ℕ) (records : List Stamped) → AreDue k records → due k records ≡ records
due_all k records all = filter_all (λ (r : Stamped). nat_le r.window k) records (due_each k records (recursion_from_All (λ (r : Stamped). r.window ≤ k) records all))

later_recent : (last time timeout : ℤ) (r : Stamped) → last ≤ℤ time → is_recent time timeout r ≡ true → is_recent last timeout r ≡ true
later_recent last time timeout r order recent = grind (arith, ints)

-- a record that is recent at a later time counts
recent_counts : (frozen : Option ℤ) (time timeout : ℤ) → ForSome frozen (λ last. last ≤ℤ time) → (r : Stamped) → is_recent time timeout r ≡ true → counts timeout frozen r ≡ true
recent_counts None time timeout order r recent = refl
recent_counts (Some last) time timeout order r recent = later_recent last time timeout r (order last refl) recent

row_counts : (frozen : Option ℤ) (time timeout : ℤ) → ForSome frozen (λ last. last ≤ℤ time) → (r : Stamped) → is_row time timeout r ≡ true → counts timeout frozen r ≡ true
row_counts frozen time timeout order r row = recent_counts frozen time timeout order r (and_parts (not r.track.ended) (is_recent time timeout r) row).1

-- what is recent of what is kept is what is kept from then on
pub freeze_keeps : (timeout : ℤ) (frozen : Option ℤ) (time : ℤ) (puts : List Stamped) (es : List (TrackKey × Stamped)) → ForSome frozen (λ last. last ≤ℤ time) → es ≡ kept_of timeout frozen puts →
    filter (λ (e : TrackKey × Stamped). is_recent time timeout e.1) es ≡ kept_of timeout (Some time) puts
freeze_keeps timeout frozen time puts es order stands =
    ap (filter (λ (e : TrackKey × Stamped). is_recent time timeout e.1)) stands
    ∙ entries-filter (is_recent time timeout) (filter (counts timeout frozen) (newest puts))
    ∙ ap entries_of (filter_narrow (is_recent time timeout) (counts timeout frozen) (recent_counts frozen time timeout order) (newest puts))

-- the rows of what is kept are the table's
pub freeze_rows : (start period timeout : ℤ) (frozen : Option ℤ) (k : ℕ) (puts : List Stamped) (es : List (TrackKey × Stamped)) → ForSome frozen (λ last. last ≤ℤ cycle_time start period k) →
    es ≡ kept_of timeout frozen puts → AreDue k puts → filter (is_row (cycle_time start period k) timeout) (values_of es) ≡ table start period timeout k puts
freeze_rows start period timeout frozen k puts es order stands all =
    let rows : List Stamped → List Stamped = filter (is_row (cycle_time start period k) timeout) in
    ap (λ (fs : List (TrackKey × Stamped)). rows (values_of fs)) stands
    ∙ ap rows (values-entries (filter (counts timeout frozen) (newest puts)))
    ∙ filter_narrow (is_row (cycle_time start period k) timeout) (counts timeout frozen) (row_counts frozen (cycle_time start period k) timeout order) (newest puts)
    ∙ ap (λ (rs : List Stamped). rows (newest rs)) (sym (due_all k puts all))
