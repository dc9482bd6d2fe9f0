-- What a function finds of the elements of a list.
use Rattle.std.proofs.Common.{◌≡◌, ℕ, ◌+◌, ◌<◌, List, [], ◌∷◌, ◌++◌, map, length, take, get_or, Option, Some, None, refl, ap, ◌∙◌}
use Rattle.std.specs.List.{AllByRecursion, cons_option, filter_map}
use Rattle.std.specs.Option.{option_and_then}
use Rattle.std.specs.List.Sorted.{IsStrictlySortedBy}
use Rattle.std.specs.declared.cmp.Ordering.{Ordering}
use Rattle.std.specs.declared.cmp.Ordering.TheVariants.{Less}
use Rattle.std.proofs.lemmas.List.{take_more, append-nil}
use Rattle.std.proofs.lemmas.List.Elements.{filter_map-append}

-- ---- of one more element

pub found_more : {X Y : Type 0} (f : X → Option Y) (xs : List X) (i : ℕ) (x : X) (y : Y) → i < length xs → f (get_or xs i x) ≡ Some y → filter_map f (take (i + 1) xs) ≡ filter_map f (take i xs) ++ y ∷ []
found_more f xs i x y before found =
    ap (filter_map f) (take_more xs i x before) ∙ filter_map-append f (take i xs) (get_or xs i x ∷ []) ∙ rw found

pub none_more : {X Y : Type 0} (f : X → Option Y) (xs : List X) (i : ℕ) (x : X) → i < length xs → f (get_or xs i x) ≡ None → filter_map f (take (i + 1) xs) ≡ filter_map f (take i xs)
none_more f xs i x before none =
    ap (filter_map f) (take_more xs i x before) ∙ filter_map-append f (take i xs) (get_or xs i x ∷ []) ∙ rw none (append-nil (filter_map f (take i xs)))

-- ---- of what another function finds

found_again_at : {Y Z : Type 0} (g : Y → Option Z) (o : Option Y) (rest : List Y) → filter_map g (cons_option o rest) ≡ cons_option (option_and_then g o) (filter_map g rest)
found_again_at g None rest = refl
found_again_at g (Some y) rest = refl

pub found_again : {X Y Z : Type 0} (f : X → Option Y) (g : Y → Option Z) (xs : List X) → filter_map g (filter_map f xs) ≡ filter_map (λ x. option_and_then g (f x)) xs
found_again f g [] = refl
found_again f g (x ∷ xs) = found_again_at g (f x) (filter_map f xs) ∙ ap (cons_option (option_and_then g (f x))) (found_again f g xs)

-- ---- of all

each_found_at : {X Y : Type 0} (P : Y → Type 0) (f : X → Option Y) (x : X) (rest : List Y) (o : Option Y) → f x ≡ o → ((y : Y) → f x ≡ Some y → P y) → AllByRecursion P rest → AllByRecursion P (cons_option o rest)
each_found_at P f x rest None at tells all = all
each_found_at P f x rest (Some y) at tells all = (tells y at, all)

pub each_found : {X Y : Type 0} (P : Y → Type 0) (Q : X → Type 0) (f : X → Option Y) → ((x : X) (y : Y) → Q x → f x ≡ Some y → P y) → (xs : List X) → AllByRecursion Q xs → AllByRecursion P (filter_map f xs)
each_found P Q f tells [] all = tt
each_found P Q f tells (x ∷ xs) all = each_found_at P f x (filter_map f xs) (f x) refl (λ y. tells x y all.0) (each_found P Q f tells xs all.1)

-- ---- what rises among the elements rises among what is found of them

module _ {K X Y : Type 0} (cmp : K → K → Ordering) (at : X → K) (of : Y → K) where
  above_found_at : (f : X → Option Y) (k : K) (x : X) (rest : List Y) (o : Option Y) → f x ≡ o → ((y : Y) → f x ≡ Some y → of y ≡ at x) → cmp k (at x) ≡ Less → AllByRecursion (λ l. cmp k l ≡ Less) (map of rest) →
      AllByRecursion (λ l. cmp k l ≡ Less) (map of (cons_option o rest))
  above_found_at f k x rest None is tells below all = all
  above_found_at f k x rest (Some y) is tells below all = (rw (tells y is) below, all)

  above_found : (f : X → Option Y) → ((x : X) (y : Y) → f x ≡ Some y → of y ≡ at x) → (k : K) (xs : List X) → AllByRecursion (λ l. cmp k l ≡ Less) (map at xs) → AllByRecursion (λ l. cmp k l ≡ Less) (map of (filter_map f xs))
  above_found f tells k [] all = tt
  above_found f tells k (x ∷ xs) all = above_found_at f k x (filter_map f xs) (f x) refl (tells x) all.0 (above_found f tells k xs all.1)

  rise_found_at : (f : X → Option Y) (x : X) (rest : List Y) (o : Option Y) → f x ≡ o → ((y : Y) → f x ≡ Some y → of y ≡ at x) → AllByRecursion (λ l. cmp (at x) l ≡ Less) (map of rest) → IsStrictlySortedBy cmp (map of rest) →
      IsStrictlySortedBy cmp (map of (cons_option o rest))
  unfolding IsStrictlySortedBy
  rise_found_at f x rest None is tells above up = up
  rise_found_at f x rest (Some y) is tells above up = (rw (tells y is) above, up)

  pub rise_found : (f : X → Option Y) → ((x : X) (y : Y) → f x ≡ Some y → of y ≡ at x) → (xs : List X) → IsStrictlySortedBy cmp (map at xs) → IsStrictlySortedBy cmp (map of (filter_map f xs))
  unfolding IsStrictlySortedBy
  rise_found f tells [] up = tt
  rise_found f tells (x ∷ xs) up = rise_found_at f x (filter_map f xs) (f x) refl (tells x) (above_found f tells (at x) xs up.0) (rise_found f tells xs up.1)
