-- Histories: lists of entries, each with the number of the seat that gave it, in the order in which they were given (this project's profile).
use Rattle.std.specs.Prelude.{ℕ, ◌==◌, nat_lt, cond, List, length, filter}

-- the entries that one seat gave
abbrev pub entries_of : {E : Type 0} → ℕ → List (ℕ × E) → List (ℕ × E)
entries_of actor history = filter (λ entry. entry.0 == actor) history

-- the longer of two histories; the first, where they are equally long
abbrev pub longer : {E : Type 0} → List (ℕ × E) → List (ℕ × E) → List (ℕ × E)
longer one other = cond (nat_lt (length one) (length other)) other one

-- the shorter of two histories; the second, where they are equally long
abbrev pub shorter : {E : Type 0} → List (ℕ × E) → List (ℕ × E) → List (ℕ × E)
shorter one other = cond (nat_lt (length one) (length other)) one other
