-- The entries of one seat in a history.
use Rattle.std.proofs.Common.{◌≡◌, ◌≢◌, ℕ, eqb, Bool, cond, List, [], ◌∷◌, ◌++◌, length, refl, ap, sym, ◌∙◌, arith, append-nil, eq-eqb, ne_eqb}
use Rattle.std.proofs.lemmas.List.Elements.{filter-append}
use mathlib.Core.List.{IsPrefix}
use Rattle.turn_lock.specs.Histories.{entries_of}
use Rattle.turn_lock.proofs.Beginnings.{begins_any, begins_length, begins_whole}

module _ {E : Type 0} where
  entries_more : (a : ℕ) (xs ys : List (ℕ × E)) → entries_of a (xs ++ ys) ≡ entries_of a xs ++ entries_of a ys
  entries_more a xs ys = filter-append (λ (entry : ℕ × E). eqb entry.0 a) xs ys

  -- one entry more of this seat
  pub entries_here : (a : ℕ) (xs : List (ℕ × E)) (e : E) → entries_of a (xs ++ (a, e) ∷ []) ≡ entries_of a xs ++ (a, e) ∷ []
  entries_here a xs e = entries_more a xs ((a, e) ∷ []) ∙ ap (λ (b : Bool). entries_of a xs ++ cond b ((a, e) ∷ []) []) (eq-eqb a a refl)

  -- one entry more of another
  pub entries_there : (a b : ℕ) (xs : List (ℕ × E)) (e : E) → b ≢ a → entries_of a (xs ++ (b, e) ∷ []) ≡ entries_of a xs
  entries_there a b xs e ne = entries_more a xs ((b, e) ∷ []) ∙ ap (λ (t : Bool). entries_of a xs ++ cond t ((b, e) ∷ []) []) (ne_eqb b a ne) ∙ append-nil (entries_of a xs)

  pub entries_begin : (a : ℕ) (xs ys : List (ℕ × E)) → IsPrefix xs ys → IsPrefix (entries_of a xs) (entries_of a ys)
  entries_begin a xs ys p = (entries_of a p.0, sym (entries_more a xs p.0) ∙ ap (entries_of a) p.1)

  -- a history between two that have the same entries of a seat has them too
  pub entries_between : (a : ℕ) (xs ys zs m : List (ℕ × E)) → IsPrefix xs ys → IsPrefix ys zs → entries_of a xs ≡ m → entries_of a zs ≡ m → entries_of a ys ≡ m
  entries_between a xs ys zs m p q e f =
      let low = entries_begin a xs ys p in
      let high = begins_length (entries_of a ys) (entries_of a zs) (entries_begin a ys zs q) in
      let same : length (entries_of a zs) ≡ length (entries_of a xs) = ap length (f ∙ sym e) in
      sym (begins_whole (entries_of a xs) (entries_of a ys) low (omega arith)) ∙ e

  pub entries_none : (a : ℕ) (xs ys : List (ℕ × E)) → IsPrefix xs ys → entries_of a ys ≡ [] → entries_of a xs ≡ []
  entries_none a xs ys p e = entries_between a [] xs ys [] (begins_any xs) p refl e
