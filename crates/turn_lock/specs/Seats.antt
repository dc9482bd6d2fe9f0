-- What contracts see of a seat of a turn, and what each call makes of it (this project's profile).
use Rattle.std.specs.Prelude.{◌≡◌, ◌≢◌, ℕ, ◌+◌, ◌*◌, ◌≤◌, Bool, true, false, List, [], ◌∷◌, ◌++◌, length, ℤ, All}
use Rattle.atomic_table.specs.Seated.{TableId}
use Rattle.turn_lock.specs.Histories.{entries_of, longer}
use Rattle.turn_lock.specs.Words.{Counts, free_word}

-- A seat: its turn, its number, whether it holds the turn, the setting of the turn's values, the history that it has seen,
-- its own entries, the two words of each of its tries (loaded, then found), and, at seat 0 alone, how many seats were made and what each joined one gave
pub record SeatView (E : Type 0) : Type 0 where
  pub turn : TableId
  pub actor : ℕ
  pub holds : Bool
  pub setting : List ℤ
  pub seen : List (ℕ × E)
  pub mine : List (ℕ × E)
  pub tried : List (ℕ × ℕ)
  pub made : ℕ
  pub joined : List (ℕ × List (ℕ × E))

-- the history's entries of this seat are its own; at seat 0, a number not yet made has none, and a joined seat has just those that it gave
pub record Accounts {E : Type 0} (seat : SeatView E) : Type 0 where
  pub own : entries_of seat.actor seat.seen ≡ seat.mine
  pub unmade : seat.actor ≡ 0 → (number : ℕ) → seat.made ≤ number → entries_of number seat.seen ≡ []
  pub joined : seat.actor ≡ 0 → All (λ ended. entries_of ended.0 seat.seen ≡ ended.1) seat.joined

module _ {E : Type 0} where
  -- the first seat of a new turn
  abbrev pub opened : TableId → List ℤ → SeatView E
  opened turn setting = record { turn = turn; actor = 0; holds = false; setting = setting; seen = []; mine = []; tried = []; made = 1; joined = [] }

  -- the seat has the turn, whose whole history it has seen; its try found the free word of the one loaded, twice the number of gives
  abbrev pub Takes : SeatView E → SeatView E → Type 0
  Takes before after =
      (loaded : ℕ)
      × (after ≡ record before { holds = true; seen = after.seen; tried = before.tried ++ (loaded, free_word loaded) ∷ [] })
      × (free_word loaded ≡ 2 * length after.seen)

  -- nothing changed but that the seat tried, and found a word other than the free word of the one loaded; that word counts each give that the seat has seen
  abbrev pub Misses : SeatView E → SeatView E → ℕ → Type 0
  Misses before after found =
      (loaded : ℕ)
      × (after ≡ record before { tried = before.tried ++ (loaded, found) ∷ [] })
      × (found ≢ free_word loaded)
      × Counts (length before.seen) found

  -- the seat gave the turn back, with one entry more in the history and among its own
  abbrev pub given : SeatView E → E → SeatView E
  given seat entry = record seat { holds = false; seen = seat.seen ++ (seat.actor, entry) ∷ []; mine = seat.mine ++ (seat.actor, entry) ∷ [] }

  -- the seat counts one more that was made
  abbrev pub counted : SeatView E → SeatView E
  counted seat = record seat { made = seat.made + 1 }

  -- the seat that it made: it has seen as much
  abbrev pub newcomer : SeatView E → SeatView E
  newcomer seat = record seat { actor = seat.made; holds = false; mine = []; tried = []; made = 0; joined = [] }

  -- the seat took another in: it has seen the longer of the two histories, and keeps what the other gave
  abbrev pub joined_with : SeatView E → SeatView E → SeatView E
  joined_with seat ended = record seat { seen = longer seat.seen ended.seen; joined = seat.joined ++ (ended.actor, ended.mine) ∷ [] }

  -- each seat but this one was joined
  abbrev pub AllJoined : SeatView E → Type 0
  AllJoined seat = seat.made ≡ length seat.joined + 1
