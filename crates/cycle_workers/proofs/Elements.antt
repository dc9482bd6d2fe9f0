-- What is among the elements of a list, by recursion.
use Rattle.std.proofs.Common.{◌≡◌, ◌∙◌, refl, ap, subst, ◌⊎◌, inl, inr, List, [], ◌∷◌, ◌++◌, Option, Some, None, arith}
use Rattle.std.specs.List.{Contains, cons_option, filter_map}
use Rattle.std.proofs.lemmas.List.Elements.{Contains-append_cases, Contains-append_left, Contains-append_right, Contains-push, Contains-push_cases}

abbrev pub In : {X : Type 0} → X → List X → Type 0
In x [] = ⊥
In x (y ∷ ys) = (y ≡ x) ⊎ In x ys

pub in_contains : {X : Type 0} (xs : List X) (x : X) → In x xs → Contains xs x
in_contains [] x h = absurd h
in_contains (y ∷ ys) x (inl is) = Contains-append_left (y ∷ []) ys x (subst (Contains (y ∷ [])) is (Contains-push [] y))
in_contains (y ∷ ys) x (inr h) = Contains-append_right (y ∷ []) ys x (in_contains ys x h)

contains_none : {X : Type 0} (x : X) → Contains [] x → ⊥
contains_none x h = let before = h.1 in absurd (omega arith)

pub contains_in : {X : Type 0} (xs : List X) (x : X) → Contains xs x → In x xs
contains_in [] x h = contains_none x h
contains_in (y ∷ ys) x h = elim (Contains-append_cases (y ∷ []) ys x h) [
  | inl one ↦ elim (Contains-push_cases [] y x one) [ inl none ↦ absurd (contains_none x none) | inr is ↦ inl is ]
  | inr rest ↦ inr (contains_in ys x rest)
]

-- ---- of two lists

pub in_append : {X : Type 0} (xs ys : List X) (x : X) → In x (xs ++ ys) → In x xs ⊎ In x ys
in_append [] ys x h = inr h
in_append (z ∷ xs) ys x (inl is) = inl (inl is)
in_append (z ∷ xs) ys x (inr h) = elim (in_append xs ys x h) [ inl a ↦ inl (inr a) | inr b ↦ inr b ]

pub in_left : {X : Type 0} (xs ys : List X) (x : X) → In x xs → In x (xs ++ ys)
in_left [] ys x h = absurd h
in_left (z ∷ xs) ys x (inl is) = inl is
in_left (z ∷ xs) ys x (inr h) = inr (in_left xs ys x h)

pub in_right : {X : Type 0} (xs ys : List X) (x : X) → In x ys → In x (xs ++ ys)
in_right [] ys x h = h
in_right (z ∷ xs) ys x h = inr (in_right xs ys x h)

-- ---- of what a function finds

in_option : {X : Type 0} (o : Option X) (rest : List X) (x : X) → In x (cons_option o rest) → (o ≡ Some x) ⊎ In x rest
in_option None rest x h = inr h
in_option (Some z) rest x (inl is) = inl (ap Some is)
in_option (Some z) rest x (inr h) = inr h

option_in : {X : Type 0} (o : Option X) (rest : List X) (x : X) → (o ≡ Some x) ⊎ In x rest → In x (cons_option o rest)
option_in None rest x (inl is) = absurd cc
option_in None rest x (inr h) = h
option_in (Some z) rest x (inl is) = let same : z ≡ x = cc in inl same
option_in (Some z) rest x (inr h) = inr h

pub in_found : {X Y : Type 0} (f : X → Option Y) (xs : List X) (y : Y) → In y (filter_map f xs) → (x : X) × In x xs × (f x ≡ Some y)
in_found f [] y h = absurd h
in_found f (x ∷ xs) y h = elim (in_option (f x) (filter_map f xs) y h) [
  | inl is ↦ (x, inl refl, is)
  | inr rest ↦ (let one = in_found f xs y rest in (one.0, inr one.1, one.2))
]

pub found_in : {X Y : Type 0} (f : X → Option Y) (xs : List X) (x : X) (y : Y) → In x xs → f x ≡ Some y → In y (filter_map f xs)
found_in f [] x y h is = absurd h
found_in f (z ∷ xs) x y (inl same) is = option_in (f z) (filter_map f xs) y (inl (ap f same ∙ is))
found_in f (z ∷ xs) x y (inr h) is = option_in (f z) (filter_map f xs) y (inr (found_in f xs x y h is))
