-- Beginnings of one list.
use Rattle.std.proofs.Common.{◌≡◌, ◌≤◌, List, [], ◌∷◌, ◌++◌, length, refl, ap, sym, ◌∙◌, arith, append_assoc, append-nil, length-append}
use mathlib.Core.List.{IsPrefix}

module _ {A : Type 0} where
  pub begins_self : (xs : List A) → IsPrefix xs xs
  begins_self xs = ([], append-nil xs)

  pub begins_any : (xs : List A) → IsPrefix [] xs
  begins_any xs = (xs, refl)

  pub begins_more : (xs ys : List A) → IsPrefix xs (xs ++ ys)
  begins_more xs ys = (ys, refl)

  pub begins_on : (xs ys zs : List A) → IsPrefix xs ys → IsPrefix ys zs → IsPrefix xs zs
  begins_on xs ys zs p q = (p.0 ++ q.0, sym (append_assoc xs p.0 q.0) ∙ ap (λ l. l ++ q.0) p.1 ∙ q.1)

  pub begins_length : (xs ys : List A) → IsPrefix xs ys → length xs ≤ length ys
  begins_length xs ys p = omega (arith, length-append xs p.0, ap length p.1)

  nothing_more : (xs ys t : List A) → xs ++ t ≡ ys → length t ≡ 0 → xs ≡ ys
  nothing_more xs ys [] e z = sym (append-nil xs) ∙ e
  nothing_more xs ys (x ∷ t) e z = absurd (omega arith)

  -- a beginning as long as the list is the list
  pub begins_whole : (xs ys : List A) → IsPrefix xs ys → length ys ≤ length xs → xs ≡ ys
  begins_whole xs ys p le = nothing_more xs ys p.0 p.1 (omega (arith, length-append xs p.0, ap length p.1))

  -- of two beginnings of one list the shorter begins the longer
  pub begins_longer : (xs ys zs : List A) → IsPrefix xs zs → IsPrefix ys zs → length xs ≤ length ys → IsPrefix xs ys
  begins_longer [] ys zs p q le = (ys, refl)
  begins_longer (x ∷ xs) [] zs p q le = absurd (omega arith)
  begins_longer (x ∷ xs) (y ∷ ys) [] p q le = absurd (cc (p.1))
  begins_longer (x ∷ xs) (y ∷ ys) (z ∷ zs) p q le =
      let tail = begins_longer xs ys zs (p.0, cc (p.1)) (q.0, cc (q.1)) (omega arith) in
      (tail.0, cc (p.1, q.1, tail.1))
