-- For the tests: a sum over a history is the sum over what each of its seats gave.
use Rattle.std.proofs.Common.{◌≡◌, ⊎_elim, ℕ, zero, suc, ◌+◌, ◌<◌, ◌≤◌, eqb, Bool, true, false, cond, List, [], ◌∷◌, ◌++◌, All, subst, refl, ap, sym, ◌∙◌, arith, eq-eqb, ne_eqb}
use Rattle.std.specs.List.{sum_by}
use Rattle.std.proofs.lemmas.Bool.{cases_lt}
use Rattle.std.proofs.lemmas.List.Sums.{sum_by-cons}
use mathlib.Core.Logic.{dite}
use native.Mathlib.Decide.{ℕ_discrete}
use Rattle.turn_lock.specs.Histories.{entries_of}
use Rattle.turn_lock.specs.Seats.{SeatView, Accounts}

-- what the seats below so many added
abbrev pub sum_of_seats : ℕ → List (ℕ × ℕ) → ℕ
sum_of_seats zero history = 0
sum_of_seats (suc n) history = sum_of_seats n history + sum_by (λ (entry : ℕ × ℕ). entry.1) (entries_of n history)

no_entry : {x : ℕ × ℕ} {xs : List (ℕ × ℕ)} → x ∷ xs ≡ [] → ⊥
no_entry e = cc e

none_left : (b : Bool) (x : ℕ × ℕ) (xs : List (ℕ × ℕ)) → cond b (x ∷ xs) xs ≡ [] → xs ≡ []
none_left true x xs e = absurd (cc e)
none_left false x xs e = e

entry_here : (n : ℕ) (x : ℕ × ℕ) (xs : List (ℕ × ℕ)) → x.0 ≡ n → entries_of n (x ∷ xs) ≡ x ∷ entries_of n xs
entry_here n x xs e = ap (λ (b : Bool). cond b (x ∷ entries_of n xs) (entries_of n xs)) (eq-eqb x.0 n e)

entry_there : (n : ℕ) (x : ℕ × ℕ) (xs : List (ℕ × ℕ)) → (x.0 ≡ n → ⊥) → entries_of n (x ∷ xs) ≡ entries_of n xs
entry_there n x xs ne = ap (λ (b : Bool). cond b (x ∷ entries_of n xs) (entries_of n xs)) (ne_eqb x.0 n ne)

not_below : (n : ℕ) (x : ℕ × ℕ) (xs : List (ℕ × ℕ)) → n ≤ x.0 → sum_of_seats n (x ∷ xs) ≡ sum_of_seats n xs
not_below zero x xs far = refl
not_below (suc n) x xs far =
    let rest = not_below n x xs (omega arith) in
    let same = ap (sum_by (λ (entry : ℕ × ℕ). entry.1)) (entry_there n x xs (λ e. omega arith)) in
    λ i. rest i + same i

one_below : (n : ℕ) (x : ℕ × ℕ) (xs : List (ℕ × ℕ)) → x.0 < n → sum_of_seats n (x ∷ xs) ≡ x.1 + sum_of_seats n xs
one_below zero x xs less = absurd (omega arith)
one_below (suc n) x xs less = dite (ℕ_discrete x.0 n)
    (λ is. let here : sum_by (λ (entry : ℕ × ℕ). entry.1) (entries_of n (x ∷ xs)) ≡ x.1 + sum_by (λ (entry : ℕ × ℕ). entry.1) (entries_of n xs) = ap (sum_by (λ (entry : ℕ × ℕ). entry.1)) (entry_here n x xs is) ∙ sum_by-cons (λ (entry : ℕ × ℕ). entry.1) x (entries_of n xs) in
    let rest = not_below n x xs (omega arith) in omega arith)
    (λ not. let same : sum_by (λ (entry : ℕ × ℕ). entry.1) (entries_of n (x ∷ xs)) ≡ sum_by (λ (entry : ℕ × ℕ). entry.1) (entries_of n xs) = ap (sum_by (λ (entry : ℕ × ℕ). entry.1)) (entry_there n x xs not) in
    let rest = one_below n x xs (omega arith) in omega arith)

sum_of_none : (n : ℕ) → sum_of_seats n [] ≡ 0
sum_of_none zero = refl
sum_of_none (suc n) = let e = sum_of_none n in let none : sum_by (λ (entry : ℕ × ℕ). entry.1) [] ≡ 0 = refl in omega arith

pub sum_is_of_seats : (n : ℕ) (h : List (ℕ × ℕ)) → ((a : ℕ) → n ≤ a → entries_of a h ≡ []) → sum_by (λ (entry : ℕ × ℕ). entry.1) h ≡ sum_of_seats n h
sum_is_of_seats n [] none = sym (sum_of_none n)
sum_is_of_seats n (x ∷ xs) none =
    let here = sum_by-cons (λ (entry : ℕ × ℕ). entry.1) x xs in
    let tail = sum_is_of_seats n xs (λ a far. none_left (eqb x.0 a) x (entries_of a xs) (none a far)) in
    ⊎_elim (λ (less : x.0 < n). omega (arith, one_below n x xs less)) (λ (far : n ≤ x.0). absurd (no_entry (sym (entry_here x.0 x xs refl) ∙ none x.0 far))) (cases_lt x.0 n)

-- four seats, three of which were joined into the first
pub sum_of_four : (s : SeatView ℕ) (m0 m1 m2 m3 : List (ℕ × ℕ)) (before : List (ℕ × List (ℕ × ℕ))) (a1 a2 a3 : ℕ) → Accounts s → s.actor ≡ 0 → s.made ≡ 4 → s.mine ≡ m0 → before ≡ [] → a1 ≡ 1 → a2 ≡ 2 → a3 ≡ 3
    → s.joined ≡ ((before ++ (a2, m2) ∷ []) ++ (a1, m1) ∷ []) ++ (a3, m3) ∷ []
    → sum_by (λ (entry : ℕ × ℕ). entry.1) s.seen ≡ sum_by (λ (entry : ℕ × ℕ). entry.1) m0 + sum_by (λ (entry : ℕ × ℕ). entry.1) m1 + sum_by (λ (entry : ℕ × ℕ). entry.1) m2 + sum_by (λ (entry : ℕ × ℕ). entry.1) m3
sum_of_four s m0 m1 m2 m3 before a1 a2 a3 accounts first made mine none one two three is =
    let list : s.joined ≡ (2, m2) ∷ (1, m1) ∷ (3, m3) ∷ [] = is ∙ (λ i. ((none i ++ (two i, m2) ∷ []) ++ (one i, m1) ∷ []) ++ (three i, m3) ∷ []) in
    let all = subst (All (λ (p : ℕ × List (ℕ × ℕ)). entries_of p.0 s.seen ≡ p.1)) list (accounts.joined first) in
    let own : entries_of 0 s.seen ≡ m0 = subst (λ (a : ℕ). entries_of a s.seen ≡ s.mine) first accounts.own ∙ mine in
    let sum = sum_is_of_seats 4 s.seen (λ a far. accounts.unmade first a (omega arith)) in
    let e0 = ap (sum_by (λ (entry : ℕ × ℕ). entry.1)) own in
    let e1 = ap (sum_by (λ (entry : ℕ × ℕ). entry.1)) (all 1 (0, []) (omega arith)) in
    let e2 = ap (sum_by (λ (entry : ℕ × ℕ). entry.1)) (all 0 (0, []) (omega arith)) in
    let e3 = ap (sum_by (λ (entry : ℕ × ℕ). entry.1)) (all 2 (0, []) (omega arith)) in omega arith
