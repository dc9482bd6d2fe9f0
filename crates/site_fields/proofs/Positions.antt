-- The first place of an element in what is seen of a list.
use Rattle.std.proofs.Common.{◌≡◌, ℕ, ◌+◌, suc, Bool, true, false, not, ◌||◌, cond, List, [], ◌∷◌, map, length, Some, None, position, refl, ap, nat_lt, arith}
use Rattle.std.proofs.lemmas.List.{length-map}
use Rattle.std.specs.List.{list_any, position_or_len}
use Rattle.std.proofs.lemmas.Bool.Decides.{nat_tests}

-- an element passes where the first place is within the list
any-first : {A : Type 0} (q : A → Bool) (xs : List A) → list_any q xs ≡ nat_lt (position_or_len q xs) (length xs)
any-first q [] = refl
any-first q (x ∷ xs) = step (q x) (list_any q xs) (position_or_len q xs) (length xs) (any-first q xs)
  where
    step : (b any : Bool) (n len : ℕ) → any ≡ nat_lt n len → (b || any) ≡ nat_lt (cond (not b) (1 + n) 0) (suc len)
    step true any n len h = grind (arith, nat_tests)
    step false any n len h = grind (arith, nat_tests)

module _ {A B : Type 0} (p : B → Bool) (g : A → B) where
  -- the first place is that of what is seen
  first-map : (xs : List A) → position_or_len p (map g xs) ≡ position_or_len (λ x. p (g x)) xs
  first-map [] = refl
  first-map (x ∷ xs) = ap (λ n. cond (not (p (g x))) (1 + n) 0) (first-map xs)

  -- where an element passes, and whether one does
  pub position-map : (xs : List A) → position p (map g xs) ≡ cond (list_any (λ x. p (g x)) xs) (Some (position_or_len (λ x. p (g x)) xs)) None
  position-map xs = rw (first-map xs, length-map, any-first (λ x. p (g x)) xs)

  -- the first place of what is seen, as a list's own
  pub position-seen : (xs : List A) → position p (map g xs) ≡ position (λ x. p (g x)) xs
  position-seen xs = rw (first-map xs, length-map)
