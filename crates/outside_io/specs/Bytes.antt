-- What a call does to the bytes that a source has left and a sink has taken, where they are told (this project's profile).
use Rattle.std.specs.Prelude.{◌≡◌, ℕ, List, [], take, Option, Result, MatchResult, IfOk}
use Rattle.std.specs.Io.KnownBytes.{Appends}

-- some of the bytes, from the first on, were taken and no others
abbrev pub AppendsPrefix : Option (List ℕ) → Option (List ℕ) → List ℕ → Type 0
AppendsPrefix old new bytes = (count : ℕ) × Appends old new (take count bytes)

-- at `Ok` all of the bytes were taken, at `Err` a prefix of them
abbrev pub AppendsWhole : {E : Type 0} → Option (List ℕ) → Option (List ℕ) → Result (Unit {0}) E → List ℕ → Type 0
AppendsWhole old new result bytes = MatchResult result (λ _. Appends old new bytes) (λ _. AppendsPrefix old new bytes)

-- a sink that took nothing at `Ok` was given nothing
abbrev pub TakesSome : {E : Type 0} → Result ℕ E → List ℕ → Type 0
TakesSome result piece = IfOk result (λ n. n ≡ 0 → piece ≡ [])
