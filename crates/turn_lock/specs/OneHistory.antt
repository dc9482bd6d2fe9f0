-- The rule that each atomic step of a turn keeps (this project's profile). Word 0 counts takes and gives, and slot 0 has the value.
use Rattle.std.specs.Prelude.{◌≡◌, ℕ, ◌+◌, ◌≤◌, Bool, true, false, cond, Option, Some, List, [], ◌∷◌, length, slice_index, ℤ, All}
use mathlib.Core.Option.{some}
use mathlib.Core.List.{IsPrefix}
use lib.ListN.{get_elem?}
use Rattle.atomic_table.specs.Table.{State}
use Rattle.turn_lock.specs.declared.rule.View.{View}
use Rattle.turn_lock.specs.Histories.{entries_of}
use Rattle.turn_lock.specs.Words.{IsWord}

-- how many of the views are live
abbrev pub live_count : {E : Type 0} → List (View E) → ℕ
live_count [] = 0
live_count (view ∷ views) = cond view.live (live_count views + 1) (live_count views)

-- what the live view of seat j knows of the history: a beginning of it, of whose entries its own are in both; the whole of it, where it holds the turn
pub record Knows {E : Type 0} (setting : List ℤ) (log : List (ℕ × E)) (held : Bool) (holder j : ℕ) (view : View E) : Type 0 where
  pub actor : view.actor ≡ j
  pub set : view.setting ≡ setting
  pub seen : IsPrefix view.seen log
  pub told : IsPrefix view.told view.seen
  pub all : entries_of j log ≡ view.mine
  pub own : entries_of j view.seen ≡ view.mine
  pub holds : view.holds ≡ true → (held ≡ true) × (holder ≡ j) × (view.seen ≡ log)

-- a seat that was joined: its view is spent, and what it gave is all that the history has of it, and all that seat 0 has seen of it
pub record IsJoined {E : Type 0} (views : List (View E)) (log seen : List (ℕ × E)) (ended : ℕ × List (ℕ × E)) : Type 0 where
  pub spent : (view : View E) × (get_elem? views ended.0 ≡ some view) × (view.live ≡ false)
  pub all : entries_of ended.0 log ≡ ended.1
  pub own : entries_of ended.0 seen ≡ ended.1

-- seat 0 is live; it counts the seats that were made, each of which is live or was joined
pub record Front {E : Type 0} (log : List (ℕ × E)) (views : List (View E)) : Type 0 where
  pub first : View E
  pub at : get_elem? views 0 ≡ some first
  pub live : first.live ≡ true
  pub made : first.made ≡ length views
  pub count : live_count views + length first.joined ≡ length views
  pub joined : All (IsJoined views log first.seen) first.joined

-- there is one history, `log`. Each live seat has seen a beginning of it, and some live seat the whole. While the turn is free the value at home stands for it; else one seat holds it
pub record OneHistory {T E : Type 0} (stands : T → List (ℕ × E) → Type 0) (setting_of : T → List ℤ) (setting : List ℤ) (s : State (Option T) (View E)) : Type 0 where
  pub log : List (ℕ × E)
  pub held : Bool
  pub holder : ℕ
  pub wide : length s.words ≡ 1
  pub word : IsWord held (length log) (slice_index s.words 0)
  pub each : (j : ℕ) (view : View E) → get_elem? s.views j ≡ some view → view.live ≡ true → Knows setting log held holder j view
  pub front : Front log s.views
  pub whole : (j : ℕ) × (view : View E) × (get_elem? s.views j ≡ some view) × (view.live ≡ true) × (view.seen ≡ log)
  pub unmade : (a : ℕ) → length s.views ≤ a → entries_of a log ≡ []
  pub held_by : held ≡ true → (view : View E) × (get_elem? s.views holder ≡ some view) × (view.live ≡ true) × (view.holds ≡ true)
  pub home : held ≡ false → (value : T) × (get_elem? s.homes 0 ≡ some (some (Some value))) × stands value log × (setting_of value ≡ setting)
