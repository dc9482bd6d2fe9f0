-- How many of a world's feeds are open (this project's profile).
use Rattle.std.specs.Prelude.{◌≡◌, ℕ, ◌+◌, Result, MatchResult}

-- at `Ok` one more feed is open, at `Err` as many as before
abbrev pub CountsOpened : {T E : Type 0} → ℕ → ℕ → Result T E → Type 0
CountsOpened before now result = MatchResult result (λ _. now ≡ before + 1) (λ _. now ≡ before)
