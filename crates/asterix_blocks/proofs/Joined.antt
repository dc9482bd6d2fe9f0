-- Lists that are joined, one after the other.
use Rattle.std.proofs.Common.{◌≡◌, ℕ, ◌+◌, ◌<◌, ◌≤◌, List, [], ◌++◌, length, get_or, take, drop, sym, ◌∙◌, ap, arith, length-append}
use Rattle.std.specs.List.{flat_map}
use Rattle.std.proofs.lemmas.List.{take_more, take-append-drop, flat_map_more}
use Rattle.std.proofs.lemmas.Grind.{flat_map-append}

-- one list more
pub flat_map-take_more : {X : Type 0} (f : X → List ℕ) (xs : List X) (i : ℕ) (d : X) → i < length xs → flat_map f (take (i + 1) xs) ≡ flat_map f (take i xs) ++ f (get_or xs i d)
flat_map-take_more f xs i d inside =
    ap (flat_map f) (take_more xs i d inside) ∙ sym (flat_map_more f [] (take i xs) (get_or xs i d))

-- the first of them are no longer than all
pub length-flat_map-take : {X : Type 0} (f : X → List ℕ) (xs : List X) (i : ℕ) → length (flat_map f (take i xs)) ≤ length (flat_map f xs)
length-flat_map-take f xs i =
    let parts : flat_map f xs ≡ flat_map f (take i xs) ++ flat_map f (drop i xs) =
    ap (flat_map f) (sym (take-append-drop i xs)) ∙ flat_map-append f (take i xs) (drop i xs) in
    omega (arith, ap length parts, length-append (flat_map f (take i xs)) (flat_map f (drop i xs)))
