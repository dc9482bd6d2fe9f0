-- Lines that are put one behind the other.
use Rattle.std.proofs.Common.{◌≡◌, ◌<◌, ◌+◌, ◌∙◌, ℕ, List, [], ◌∷◌, ◌++◌, length, take, get_or, sym, ap, append_assoc}
use Rattle.std.proofs.lemmas.List.{flat_map_more, take_more}
use Rattle.std.specs.List.{enumerate_from, flat_map}
use Rattle.replay_cli.proofs.Lists.{numbered_more}

-- one more part
pub part-next : {X : Type 0} (f : X → List ℕ) (old before now : List ℕ) (xs : List X) (i : ℕ) (d : X) → i < length xs → before ≡ old ++ flat_map f (take i xs) → now ≡ before ++ f (get_or xs i d)
    → now ≡ old ++ flat_map f (take (i + 1) xs)
part-next f old before now xs i d within is next =
    next ∙ ap (λ t. t ++ f (get_or xs i d)) is ∙ flat_map_more f old (take i xs) (get_or xs i d) ∙ ap (λ ys. old ++ flat_map f ys) (sym (take_more xs i d within))

-- one more part, by its number
pub numbered-next : {X : Type 0} (f : ℕ × X → List ℕ) (old before now : List ℕ) (xs : List X) (i : ℕ) (x : X) → i < length xs → x ≡ get_or xs i x → before ≡ old ++ flat_map f (enumerate_from 0 (take i xs))
    → now ≡ before ++ f (i, x) → now ≡ old ++ flat_map f (enumerate_from 0 (take (i + 1) xs))
numbered-next f old before now xs i x within here is next =
    let numbered : enumerate_from 0 (take (i + 1) xs) ≡ enumerate_from 0 (take i xs) ++ (i, x) ∷ [] =
    numbered_more xs i x within ∙ ap (λ y. enumerate_from 0 (take i xs) ++ (i, y) ∷ []) (sym here) in
    next ∙ ap (λ t. t ++ f (i, x)) is ∙ flat_map_more f old (enumerate_from 0 (take i xs)) (i, x) ∙ ap (λ ys. old ++ flat_map f ys) (sym numbered)

-- three parts behind a text
pub three-parts : (old first second now a b c : List ℕ) → first ≡ old ++ a → second ≡ first ++ b → now ≡ second ++ c → now ≡ old ++ (a ++ b ++ c)
three-parts old first second now a b c p q r = r ∙ ap (λ t. t ++ c) (q ∙ ap (λ t. t ++ b) p ∙ append_assoc old a b) ∙ append_assoc old (a ++ b) c
