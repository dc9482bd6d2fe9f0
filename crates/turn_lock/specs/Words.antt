-- The word of a turn, which counts takes and gives (this project's profile).
use Rattle.std.specs.Prelude.{◌≡◌, ℕ, ◌+◌, ◌-◌, ◌*◌, ◌%◌, ◌<◌, ◌≤◌, Bool, true, false}

-- the number of the last give, 2^63 - 1
abbrev pub last_give : ℕ
last_give = 9223372036854775807

-- the word after the last give, 2^64 - 1: it is odd for good
abbrev pub last_word : ℕ
last_word = 18446744073709551615

-- the word after so many gives, while the turn is free: twice their number
abbrev pub IsFree : ℕ → ℕ → Type 0
IsFree gives word = (gives < last_give → word ≡ 2 * gives) × (gives ≡ last_give → word ≡ last_word)

-- the word after so many gives: one more than the free one, while the turn is held
pub record IsWord (held : Bool) (gives word : ℕ) : Type 0 where
  pub most : gives ≤ last_give
  pub taken : held ≡ true → (word ≡ 2 * gives + 1) × (gives < last_give)
  pub free : held ≡ false → IsFree gives word

-- the word counts so many gives, and maybe more
abbrev pub Counts : ℕ → ℕ → Type 0
Counts gives word = (2 * gives ≤ word) × (gives ≡ last_give → word ≡ last_word)

-- the free word that a take expects, which loaded this one: itself, with its lowest bit cleared
abbrev pub free_word : ℕ → ℕ
free_word loaded = loaded - loaded % 2
