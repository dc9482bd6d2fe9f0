-- The longer and the shorter of two histories.
use Rattle.std.proofs.Common.{◌≡◌, ◌⊎◌, ℕ, ◌<◌, ◌≤◌, ltb, Bool, true, false, cond, List, length, refl, arith}
use Rattle.std.proofs.lemmas.Bool.{ltb-true, ltb-false}
use mathlib.Core.List.{IsPrefix}
use Rattle.turn_lock.specs.Histories.{longer, shorter}
use Rattle.turn_lock.proofs.Beginnings.{begins_self, begins_longer, begins_whole, begins_length}

module _ {E : Type 0} where
  -- whatever holds of both ways round holds of the longer and the shorter
  either_way : (P : List (ℕ × E) → List (ℕ × E) → Type 0) (xs ys : List (ℕ × E)) (b : Bool) → ltb (length xs) (length ys) ≡ b → (length xs < length ys → P ys xs) → (length ys ≤ length xs → P xs ys)
      → P (cond b ys xs) (cond b xs ys)
  either_way P xs ys true e less more = less (ltb-true (length xs) (length ys) e)
  either_way P xs ys false e less more = more (ltb-false (length xs) (length ys) e)

  pub longer_begins : (xs ys log : List (ℕ × E)) → IsPrefix xs log → IsPrefix ys log → IsPrefix (longer xs ys) log
  longer_begins xs ys log p q = either_way (λ long short. IsPrefix long log) xs ys (ltb (length xs) (length ys)) refl (λ _. q) (λ _. p)

  pub shorter_begins : (xs ys log : List (ℕ × E)) → IsPrefix xs log → IsPrefix ys log → IsPrefix (shorter xs ys) (longer xs ys)
  shorter_begins xs ys log p q = either_way (λ long short. IsPrefix short long) xs ys (ltb (length xs) (length ys)) refl
      (λ less. begins_longer xs ys log p q (omega arith)) (λ more. begins_longer ys xs log q p more)

  -- where one of two beginnings of a history is the whole, the longer is
  pub longer_whole : (xs ys log : List (ℕ × E)) → IsPrefix xs log → IsPrefix ys log → (length log ≤ length xs) ⊎ (length log ≤ length ys) → longer xs ys ≡ log
  longer_whole xs ys log p q one =
      let a = begins_length xs log p in let b = begins_length ys log q in
      either_way (λ long short. long ≡ log) xs ys (ltb (length xs) (length ys)) refl (λ less. begins_whole ys log q (omega arith)) (λ more. begins_whole xs log p (omega arith))

  -- where the shorter begins the longer, both do
  pub both_begin : (xs ys : List (ℕ × E)) → IsPrefix (shorter xs ys) (longer xs ys) → IsPrefix xs (longer xs ys) × IsPrefix ys (longer xs ys)
  both_begin xs ys p = either_way (λ long short. IsPrefix short long → IsPrefix xs long × IsPrefix ys long) xs ys (ltb (length xs) (length ys)) refl (λ _ q. (q, begins_self ys)) (λ _ q. (begins_self xs, q)) p
