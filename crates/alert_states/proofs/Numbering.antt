-- The subjects of a cycle one after the other: the alerts that begin are numbered in their order.
use Rattle.std.proofs.Common.{◌≡◌, ℕ, ◌+◌, Bool, true, false, cond, List, [], ◌∷◌, Option, refl, ap, sym, ◌∙◌, arith, add_assoc, zero-add}
use Rattle.std.specs.Prelude.{filter}
use Rattle.std.specs.List.{AllByRecursion, cons_option, filter_map}
use Rattle.std.specs.List.Sorted.{IsStrictlySortedBy}
use Rattle.std.specs.declared.cmp.Ordering.TheVariants.{Less, Greater}
use Rattle.std.specs.Ordering.{is_lt, ordering_reverse}
use Rattle.std.proofs.lemmas.List.Sums.{sum_by-cons}
use Rattle.alert_states.specs.declared.event.Subject.{Subject}
use Rattle.alert_states.specs.Events.{count_below}
use Rattle.alert_states.specs.Subjects.{subject_cmp}
use Rattle.alert_states.proofs.Orders.{itself, subject_total}
use Rattle.alert_states.proofs.Rows.{AreAbove}

-- rows of subjects, each after as many alerts as began before it
abbrev pub numbered : {X : Type 0} → (Subject → Bool) → (ℕ → Subject → Option X) → ℕ → List Subject → List X
numbered first row n [] = []
numbered first row n (s ∷ ss) = cons_option (row n s) (numbered first row (n + cond (first s) 1 0) ss)

below_more : (s x : Subject) (xs : List Subject) → count_below s (x ∷ xs) ≡ cond (is_lt (subject_cmp x s)) 1 0 + count_below s xs
below_more s x xs = sum_by-cons (λ y. cond (is_lt (subject_cmp y s)) 1 0) x xs

not_below : (s x : Subject) (xs : List Subject) (b : Bool) → subject_cmp x s ≡ Greater → count_below s xs ≡ 0 → count_below s (cond b (x ∷ xs) xs) ≡ 0
not_below s x xs true above none = below_more s x xs ∙ ap (λ o. cond (is_lt o) 1 0 + count_below s xs) above ∙ zero-add (count_below s xs) ∙ none
not_below s x xs false above none = none

-- none of those above stands below
none_below : (s : Subject) (first : Subject → Bool) (ss : List Subject) → AreAbove s ss → count_below s (filter first ss) ≡ 0
none_below s first [] all = refl
none_below s first (x ∷ xs) all = not_below s x (filter first xs) (first x) (subject_total.antisymm x s ∙ ap ordering_reverse all.0) (none_below s first xs all.1)

not_below_itself : (s : Subject) (xs : List Subject) (b : Bool) → count_below s xs ≡ 0 → count_below s (cond b (s ∷ xs) xs) ≡ 0
not_below_itself s xs true none = below_more s s xs ∙ ap (λ o. cond (is_lt o) 1 0 + count_below s xs) (itself s) ∙ zero-add (count_below s xs) ∙ none
not_below_itself s xs false none = none

one_below : (s x : Subject) (xs : List Subject) (b : Bool) → subject_cmp s x ≡ Less → count_below x (cond b (s ∷ xs) xs) ≡ cond b 1 0 + count_below x xs
one_below s x xs true below = below_more x s xs ∙ ap (λ o. cond (is_lt o) 1 0 + count_below x xs) below
one_below s x xs false below = sym (zero-add (count_below x xs))

same_rows : {X : Type 0} (P : Subject → Type 0) (f g : Subject → Option X) → ((s : Subject) → P s → f s ≡ g s) → (ss : List Subject) → AllByRecursion P ss → filter_map f ss ≡ filter_map g ss
same_rows P f g same [] all = refl
same_rows P f g same (s ∷ ss) all = ap (λ o. cons_option o (filter_map f ss)) (same s all.0) ∙ ap (λ xs. cons_option (g s) xs) (same_rows P f g same ss all.1)

-- each row is numbered by how many alerts begin below its subject
pub numbered_is : {X : Type 0} (first : Subject → Bool) (row : ℕ → Subject → Option X) (n : ℕ) (ss : List Subject) → IsStrictlySortedBy subject_cmp ss →
    numbered first row n ss ≡ filter_map (λ s. row (n + count_below s (filter first ss)) s) ss
unfolding IsStrictlySortedBy
numbered_is first row n [] up = refl
numbered_is first row n (s ∷ ss) up =
    let one : ℕ = cond (first s) 1 0 in
    let head : n ≡ n + count_below s (filter first (s ∷ ss)) = omega (arith, not_below_itself s (filter first ss) (first s) (none_below s first ss up.0)) in
    ap (λ xs. cons_option (row n s) xs)
    (numbered_is first row (n + one) ss up.1
    ∙ same_rows (λ x. subject_cmp s x ≡ Less) (λ x. row (n + one + count_below x (filter first ss)) x) (λ x. row (n + count_below x (filter first (s ∷ ss))) x)
    (λ x below. ap (λ m. row m x) (add_assoc n one (count_below x (filter first ss)) ∙ ap (λ m. n + m) (sym (one_below s x (filter first ss) (first s) below))))
    ss up.0)
    ∙ ap (λ m. cons_option (row m s) (filter_map (λ x. row (n + count_below x (filter first (s ∷ ss))) x) ss)) head

-- rows that are the same at each subject
pub same_each : {X : Type 0} (f g : Subject → Option X) → ((s : Subject) → f s ≡ g s) → (ss : List Subject) → filter_map f ss ≡ filter_map g ss
same_each f g same [] = refl
same_each f g same (s ∷ ss) = ap (λ o. cons_option o (filter_map f ss)) (same s) ∙ ap (λ xs. cons_option (g s) xs) (same_each f g same ss)
