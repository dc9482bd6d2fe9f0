-- A polygon that is gone round from another of its points, or the other way.
use Rattle.std.proofs.Common.{◌≡◌, sym, ap, ◌∙◌, refl, ℕ, ◌+◌, ◌%◌, ◌==◌, Bool, cond, List, [], ◌∷◌, ◌++◌, length, reverse, zip, ℤ, append-nil, append_assoc, length-append, arith}
use Rattle.std.proofs.Math.Bool.{or_comm}
use Rattle.std.proofs.lemmas.List.{length-reverse, reverse-append}
use Rattle.std.proofs.lemmas.List.Sums.{sum_by-append, sum_by-cons}
use Rattle.polygon_plan.specs.Inside.{counts, counts_upward, crossings, edges, inside}

zip-append : (froms tos cs ds : List (ℤ × ℤ)) → length froms ≡ length tos → zip (froms ++ cs) (tos ++ ds) ≡ zip froms tos ++ zip cs ds
zip-append [] [] cs ds same = refl
zip-append [] (b ∷ tos) cs ds same = absurd (omega arith)
zip-append (a ∷ froms) [] cs ds same = absurd (omega arith)
zip-append (a ∷ froms) (b ∷ tos) cs ds same = ap (λ (l : List ((ℤ × ℤ) × (ℤ × ℤ))). (a, b) ∷ l) (zip-append froms tos cs ds (omega arith))

crossings-append : (of more : List ((ℤ × ℤ) × (ℤ × ℤ))) (x y : ℤ) → crossings (of ++ more) x y ≡ crossings of x y + crossings more x y
crossings-append of more x y = sum_by-append (λ (edge : (ℤ × ℤ) × (ℤ × ℤ)). cond (counts x y edge) 1 0) of more

crossings-cons : (edge : (ℤ × ℤ) × (ℤ × ℤ)) (of : List ((ℤ × ℤ) × (ℤ × ℤ))) (x y : ℤ) → crossings (edge ∷ of) x y ≡ cond (counts x y edge) 1 0 + crossings of x y
crossings-cons edge of x y = sum_by-cons (λ (e : (ℤ × ℤ) × (ℤ × ℤ)). cond (counts x y e) 1 0) edge of

-- ---- from another point
-- the edges of a way from its first point to one beyond its last
way : ℤ × ℤ → List (ℤ × ℤ) → ℤ × ℤ → List ((ℤ × ℤ) × (ℤ × ℤ))
way p ps end = zip (p ∷ ps) (ps ++ end ∷ [])

two_ways : (p : ℤ × ℤ) (ps : List (ℤ × ℤ)) (q : ℤ × ℤ) (qs : List (ℤ × ℤ)) → edges ((p ∷ ps) ++ (q ∷ qs)) ≡ way p ps q ++ way q qs p
unfolding way
two_ways p ps q qs =
    let ends : (ps ++ q ∷ qs) ++ p ∷ [] ≡ (ps ++ q ∷ []) ++ (qs ++ p ∷ []) = append_assoc ps (q ∷ qs) (p ∷ []) ∙ sym (append_assoc ps (q ∷ []) (qs ++ p ∷ [])) in
    ap (λ (ends : List (ℤ × ℤ)). zip ((p ∷ ps) ++ (q ∷ qs)) ends) ends ∙
    zip-append (p ∷ ps) (ps ++ q ∷ []) (q ∷ qs) (qs ++ p ∷ []) (omega (arith, length-append ps (q ∷ [])))

crossings_turned : (start end : List (ℤ × ℤ)) (x y : ℤ) → crossings (edges (end ++ start)) x y ≡ crossings (edges (start ++ end)) x y
crossings_turned [] end x y = ap (λ (points : List (ℤ × ℤ)). crossings (edges points) x y) (append-nil end)
crossings_turned (p ∷ ps) [] x y = ap (λ (points : List (ℤ × ℤ)). crossings (edges points) x y) (sym (append-nil (p ∷ ps)))
crossings_turned (p ∷ ps) (q ∷ qs) x y =
    let there = ap (λ (of : List ((ℤ × ℤ) × (ℤ × ℤ))). crossings of x y) (two_ways q qs p ps) ∙ crossings-append (way q qs p) (way p ps q) x y in
    let back = ap (λ (of : List ((ℤ × ℤ) × (ℤ × ℤ))). crossings of x y) (two_ways p ps q qs) ∙ crossings-append (way p ps q) (way q qs p) x y in
    omega (arith, there, back)

pub inside_turned : (start end : List (ℤ × ℤ)) (x y : ℤ) → inside (end ++ start) x y ≡ inside (start ++ end) x y
inside_turned start end x y = ap (λ (n : ℕ). n % 2 == 1) (crossings_turned start end x y)

-- ---- the other way
counts-swapped : (x y : ℤ) (a b : ℤ × ℤ) → counts x y (a, b) ≡ counts x y (b, a)
counts-swapped x y a b = or_comm (counts_upward x y a b) (counts_upward x y b a)

reverse-cons : (p : ℤ × ℤ) (ps : List (ℤ × ℤ)) → reverse (p ∷ ps) ≡ reverse ps ++ p ∷ []
reverse-cons p ps = reverse-append (p ∷ []) ps

-- both ends of one more edge
crossings-reversed_more : (froms tos : List (ℤ × ℤ)) (from to : ℤ × ℤ) (x y : ℤ) → length froms ≡ length tos → crossings (zip (reverse (from ∷ froms)) (reverse (to ∷ tos))) x y ≡ crossings (zip (reverse froms) (reverse tos)) x y + crossings ((from, to) ∷ []) x y
crossings-reversed_more froms tos from to x y same =
    ap (λ (starts : List (ℤ × ℤ)). crossings (zip starts (reverse (to ∷ tos))) x y) (reverse-cons from froms) ∙
    ap (λ (ends : List (ℤ × ℤ)). crossings (zip (reverse froms ++ from ∷ []) ends) x y) (reverse-cons to tos) ∙
    ap (λ (of : List ((ℤ × ℤ) × (ℤ × ℤ))). crossings of x y) (zip-append (reverse froms) (reverse tos) (from ∷ []) (to ∷ []) (omega (arith, length-reverse froms, length-reverse tos))) ∙
    crossings-append (zip (reverse froms) (reverse tos)) ((from, to) ∷ []) x y

crossings-reversed : (froms tos : List (ℤ × ℤ)) (x y : ℤ) → length froms ≡ length tos → crossings (zip (reverse froms) (reverse tos)) x y ≡ crossings (zip tos froms) x y
crossings-reversed [] [] x y same = refl
crossings-reversed [] (b ∷ tos) x y same = absurd (omega arith)
crossings-reversed (a ∷ froms) [] x y same = absurd (omega arith)
crossings-reversed (a ∷ froms) (b ∷ tos) x y same =
    let before = crossings-reversed froms tos x y (omega arith) in
    let more = crossings-reversed_more froms tos a b x y (omega arith) in
    let one = crossings-cons (a, b) [] x y in
    let first = crossings-cons (b, a) (zip tos froms) x y in
    let swapped = ap (λ (b : Bool). let weight : ℕ = cond b 1 0 in weight) (counts-swapped x y a b) in
    omega (arith, before, more, one, first, swapped)

crossings_back : (points : List (ℤ × ℤ)) (x y : ℤ) → crossings (edges (reverse points)) x y ≡ crossings (edges points) x y
crossings_back [] x y = refl
crossings_back (p ∷ ps) x y =
    let starts : p ∷ reverse ps ≡ reverse (ps ++ p ∷ []) = sym (reverse-append ps (p ∷ [])) in
    ap (λ (points : List (ℤ × ℤ)). crossings (edges points) x y) (reverse-cons p ps) ∙
    crossings_turned (p ∷ []) (reverse ps) x y ∙
    ap (λ (starts : List (ℤ × ℤ)). crossings (zip starts (reverse ps ++ p ∷ [])) x y) starts ∙
    ap (λ (ends : List (ℤ × ℤ)). crossings (zip (reverse (ps ++ p ∷ [])) ends) x y) (sym (reverse-cons p ps)) ∙
    crossings-reversed (ps ++ p ∷ []) (p ∷ ps) x y (omega (arith, length-append ps (p ∷ [])))

pub inside_back : (points : List (ℤ × ℤ)) (x y : ℤ) → inside (reverse points) x y ≡ inside points x y
inside_back points x y = ap (λ (n : ℕ). n % 2 == 1) (crossings_back points x y)
