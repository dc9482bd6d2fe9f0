-- What each atomic step of a turn makes of its seat's view, and what it tells (this project's profile).
use Rattle.std.specs.Prelude.{◌≡◌, ◌≢◌, ℕ, ◌+◌, ◌*◌, ◌<◌, true, false, Option, Some, None, List, [], ◌∷◌, ◌++◌, length, ℤ}
use mathlib.Core.List.{IsPrefix}
use Rattle.atomic_table.specs.Table.{Me, Step}
use Rattle.atomic_table.specs.Seated.{TableId}
use Rattle.turn_lock.specs.declared.rule.View.{View}
use Rattle.turn_lock.specs.Histories.{longer, shorter}
use Rattle.turn_lock.specs.Words.{last_give, Counts}
use Rattle.turn_lock.specs.Seats.{SeatView, Accounts}

-- what contracts see of a view
abbrev pub shown : {E : Type 0} → TableId → View E → SeatView E
shown turn v = record { turn = turn; actor = v.actor; holds = v.holds; setting = v.setting; seen = v.seen; mine = v.mine; tried = v.tried; made = v.made; joined = v.joined }

-- the loaded word with the one found: one try more, where a word was loaded
abbrev pub try_of : Option ℕ → ℕ → List (ℕ × ℕ)
try_of (Some loaded) found = (loaded, found) ∷ []
try_of None found = []

module _ {E : Type 0} where
  -- the view of the first seat
  abbrev pub first_view : List ℤ → View E
  first_view setting = record { actor = 0; live = true; holds = false; loaded = None; setting = setting; seen = []; told = []; mine = []; tried = []; made = 1; joined = [] }

  -- the load keeps its word
  abbrev pub has_loaded : View E → ℕ → View E
  has_loaded v word = record v { loaded = Some word }

  -- the exchange that found another word: the try is entered, and the loaded word is spent
  abbrev pub has_missed : View E → ℕ → View E
  has_missed v found = record v { loaded = None; tried = v.tried ++ try_of v.loaded found }

  -- the exchange that found the turn free: besides, the seat holds the turn and has seen the history
  abbrev pub has_taken : View E → List (ℕ × E) → ℕ → View E
  has_taken v history found = record v { holds = true; loaded = None; seen = history; told = []; tried = v.tried ++ try_of v.loaded found }

  -- the swap that gives the turn back enters the entry
  abbrev pub has_given : View E → E → View E
  has_given v entry = record v { holds = false; seen = v.seen ++ (v.actor, entry) ∷ []; told = []; mine = v.mine ++ (v.actor, entry) ∷ [] }

  -- the seat that is split counts the new one
  abbrev pub has_split : View E → View E
  has_split v = record v { made = v.made + 1 }

  -- the new seat has the next number, and has seen as much
  abbrev pub split_off : View E → View E
  split_off v = record v { actor = v.made; holds = false; loaded = None; told = []; mine = []; tried = []; made = 0; joined = [] }

  -- the seat that is joined into keeps the longer history, remembers the shorter for the load that follows, and keeps what the other gave
  abbrev pub has_joined : View E → View E → View E
  has_joined v w = record v { seen = longer v.seen w.seen; told = shorter v.seen w.seen; joined = v.joined ++ (w.actor, w.mine) ∷ [] }

  -- the view that is left of a joined seat
  abbrev pub spent : View E
  spent = record { actor = 0; live = false; holds = false; loaded = None; setting = []; seen = []; told = []; mine = []; tried = []; made = 0; joined = [] }

-- a load in a take
abbrev pub Loads : {T E : Type 0} → Step (Option T) → Me (Option T) (View E) → ℕ → Me (Option T) (View E) → Type 0
Loads st m found n = n ≡ (has_loaded m.0 found, m.1)

-- the load after a join: the shorter history begins the longer, and the entries are where they belong
abbrev pub Compares : {T E : Type 0} → Step (Option T) → Me (Option T) (View E) → ℕ → Me (Option T) (View E) → Type 0
Compares st m found n = (n ≡ m) × IsPrefix m.0.told m.0.seen × ((turn : TableId) → Accounts (shown turn m.0))

module _ {T E : Type 0} (stands : T → List (ℕ × E) → Type 0) (setting_of : T → List ℤ) where
  -- the turn was free after all gives of a history that begins with what the seat had seen; the value came with it, and stands for it
  pub record HasTaken (m : Me (Option T) (View E)) (found : ℕ) (n : Me (Option T) (View E)) : Type 0 where
    pub history : List (ℕ × E)
    pub value : T
    pub idle : m.0.holds ≡ false
    pub view : n.0 ≡ has_taken m.0 history found
    pub slot : n.1 ≡ (0, Some value) ∷ m.1
    pub begins : IsPrefix m.0.seen history
    pub count : (found ≡ 2 * length history) × (length history < last_give)
    pub stood : stands value history
    pub set : setting_of value ≡ m.0.setting
    pub accounts : (turn : TableId) → Accounts (shown turn n.0)

  -- the exchange of a take, which expects the word `first`
  abbrev pub Tries : Step (Option T) → Me (Option T) (View E) → ℕ → Me (Option T) (View E) → Type 0
  Tries st m found n =
      (found ≡ st.first → HasTaken m found n)
      × (found ≢ st.first → (n ≡ (has_missed m.0 found, m.1)) × Counts (length m.0.seen) found)

-- the swap of a give
abbrev pub Gives : {T E : Type 0} → Option E → Step (Option T) → Me (Option T) (View E) → ℕ → Me (Option T) (View E) → Type 0
Gives {T} {E} said st m found n = (entry : E) → said ≡ Some entry → (n ≡ (has_given m.0 entry, [])) × ((turn : TableId) → Accounts (shown turn n.0))

-- between calls: the seat is live, has no loaded word, and knows whose entries it has seen; while it holds the turn it has the empty slot, and `word` is the free word that it found
pub record IsSeat {T E : Type 0} (turn : TableId) (me : Me (Option T) (View E)) (word : ℕ) : Type 0 where
  pub live : me.0.live ≡ true
  pub unloaded : me.0.loaded ≡ None
  pub accounts : Accounts (shown turn me.0)
  pub idle : me.0.holds ≡ false → me.1 ≡ []
  pub holding : me.0.holds ≡ true → (me.1 ≡ (0, None) ∷ []) × (word ≡ 2 * length me.0.seen) × (length me.0.seen < last_give)
