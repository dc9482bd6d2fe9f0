-- One more element of a list that a loop goes over.
use Rattle.std.proofs.Common.{◌≡◌, ℕ, ◌+◌, ◌<◌, List, [], ◌∷◌, ◌++◌, length, take, get_or, ap, ◌∙◌, arith, suc}
use Rattle.std.specs.List.{enumerate_from}
use Rattle.std.proofs.lemmas.List.{take_more, length-take}

same_number : (n : ℕ) → n ≡ n + 0
same_number n = omega arith

next_number : (n m : ℕ) → n + 1 + m ≡ n + suc m
next_number n m = omega arith

-- the elements with their numbers, those of a second list after those of the first
pub enumerate_append : {X : Type 0} (n : ℕ) (xs ys : List X) → enumerate_from n (xs ++ ys) ≡ enumerate_from n xs ++ enumerate_from (n + length xs) ys
enumerate_append n [] ys = ap (λ m. enumerate_from m ys) (same_number n)
enumerate_append n (x ∷ xs) ys = ap (λ es. (n, x) ∷ es) (enumerate_append (n + 1) xs ys ∙ ap (λ m. enumerate_from (n + 1) xs ++ enumerate_from m ys) (next_number n (length xs)))

length_take_below : {X : Type 0} (i : ℕ) (xs : List X) → i < length xs → length (take i xs) ≡ i
length_take_below i xs before = simp length-take (omega arith)

-- at one more element
pub numbered_more : {X : Type 0} (xs : List X) (i : ℕ) (x : X) → i < length xs → enumerate_from 0 (take (i + 1) xs) ≡ enumerate_from 0 (take i xs) ++ (i, get_or xs i x) ∷ []
numbered_more xs i x before =
    let long : length (take i xs) ≡ i = length_take_below i xs before in
    ap (enumerate_from 0) (take_more xs i x before)
    ∙ enumerate_append 0 (take i xs) (get_or xs i x ∷ [])
    ∙ ap (λ n. enumerate_from 0 (take i xs) ++ (n, get_or xs i x) ∷ []) (omega arith)
