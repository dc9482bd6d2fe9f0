-- Calls that are counted from 0, and lists that say how each of them goes (this project's profile).
use Rattle.std.specs.Prelude.{◌≡◌, ◌<◌, ◌⊎◌, true, ℕ, Bool, ◌==◌, ◌+◌, ◌-◌, ◌^◌, min, max, List, unwrap_or, option_map}
use Rattle.std.specs.List.{list_any, slice_get}

-- the count after one more, which stops at its last value
abbrev pub counted : ℕ → ℕ
counted count = min (count + 1) (2 ^ 64 - 1)

-- the call's number stands in the list
abbrev pub is_listed : List ℕ → ℕ → Bool
is_listed numbers call = list_any (λ number. number == call) numbers

-- of so many bytes, at most as many as the call's entry says; past the list there is no such bound
abbrev pub at_most : List ℕ → ℕ → ℕ → ℕ
at_most bounds call bytes = unwrap_or (option_map (λ bound. min bound bytes) (slice_get bounds call)) bytes

-- as `at_most`, but one byte where there are any
abbrev pub at_least_one : List ℕ → ℕ → ℕ → ℕ
at_least_one bounds call bytes = max (at_most bounds call bytes) (min 1 bytes)

-- a write of so many bytes fails: its number is listed, it takes nothing of a piece that isn't empty, or it goes past the room
abbrev pub WriteFails : List ℕ → List ℕ → ℕ → ℕ → ℕ → ℕ → Type 0
WriteFails fail takes room taken call bytes =
    let count = at_most takes call bytes in
    (is_listed fail call ≡ true) ⊎ ((count ≡ 0) × (0 < bytes)) ⊎ (room < taken + count)
