-- Rows, each told by its subject: what is found at a subject, and that the subjects rise.
use Rattle.std.proofs.Common.{◌≡◌, Bool, true, false, cond, ◌&&◌, ◌||◌, List, [], ◌∷◌, map, Option, Some, None, T, refl, ap, sym, ◌∙◌}
use Rattle.std.specs.List.{AllByRecursion, cons_option, filter_map, find, list_any}
use Rattle.std.specs.List.Sorted.{IsStrictlySortedBy}
use Rattle.std.specs.declared.cmp.Ordering.{Ordering}
use Rattle.std.specs.declared.cmp.Ordering.TheVariants.{Less, Equal, Greater}
use Rattle.std.specs.Ordering.{eq_by_cmp, is_eq, is_lt}
use Rattle.std.specs.FinMap.Entries.{below_all, find as finmap_find, is_sorted, same_entries}
use Rattle.alert_states.specs.declared.event.Subject.{Subject}
use Rattle.alert_states.specs.Subjects.{subject_cmp}
use Rattle.alert_states.proofs.Orders.{subject_equal, subject_total}

-- the subject is one of these
abbrev pub is_among : Subject → List Subject → Bool
is_among q subjects = list_any (λ s. is_eq (subject_cmp q s)) subjects

abbrev pub AreAbove : Subject → List Subject → Type 0
AreAbove x subjects = AllByRecursion (λ s. subject_cmp x s ≡ Less) subjects

pub above_lower : (x y : Subject) (subjects : List Subject) → subject_cmp x y ≡ Less → AreAbove y subjects → AreAbove x subjects
above_lower x y [] below all = tt
above_lower x y (s ∷ ss) below all = (subject_total.trans x y s below all.0, above_lower x y ss below all.1)

-- what stands at a subject
abbrev pub found : {R : Type 0} → (R → Subject) → Subject → List R → Option R
found at q rows = find (λ r. eq_by_cmp subject_cmp q (at r)) rows

-- what a function gives of a subject is about that subject
abbrev pub Tells : {R : Type 0} → (R → Subject) → (Subject → Option R) → Type 0
Tells {R} at f = (s : Subject) (r : R) → f s ≡ Some r → at r ≡ s

module _ {R : Type 0} (at : R → Subject) where
  cond_same : (b : Bool) (o : Option R) → cond b o o ≡ o
  cond_same true o = refl
  cond_same false o = refl

  equal_at : (q s : Subject) (o : Ordering) → subject_cmp q s ≡ o → is_eq o ≡ true → q ≡ s
  equal_at q s Less is e = absurd (cc)
  equal_at q s Equal is e = subject_equal q s is
  equal_at q s Greater is e = absurd (cc)

  same_at : (q s : Subject) → is_eq (subject_cmp q s) ≡ true → q ≡ s
  same_at q s e = equal_at q s (subject_cmp q s) refl e

  found_step : (f : Subject → Option R) → Tells at f → (q s : Subject) (rest : List R) (any : Bool) (o : Option R) (b : Bool) → f s ≡ o → is_eq (subject_cmp q s) ≡ b →
      found at q rest ≡ cond any (f q) None → found at q (cons_option o rest) ≡ cond (b || any) (f q) None
  found_step f tells q s rest any None true at_o at_b again =
      let none : f q ≡ None = ap f (same_at q s at_b) ∙ at_o in
      again ∙ ap (λ o. cond any o None) none ∙ cond_same any None ∙ sym none
  found_step f tells q s rest any None false at_o at_b again = again
  found_step f tells q s rest any (Some r) true at_o at_b again =
      let here : is_eq (subject_cmp q (at r)) ≡ true = ap (λ x. is_eq (subject_cmp q x)) (tells s r at_o) ∙ at_b in
      rw here (sym (ap f (same_at q s at_b) ∙ at_o))
  found_step f tells q s rest any (Some r) false at_o at_b again =
      let elsewhere : is_eq (subject_cmp q (at r)) ≡ false = ap (λ x. is_eq (subject_cmp q x)) (tells s r at_o) ∙ at_b in
      rw elsewhere again

  -- at each of the subjects stands what the function gives of it
  pub found_rows : (f : Subject → Option R) → Tells at f → (q : Subject) (subjects : List Subject) → found at q (filter_map f subjects) ≡ cond (is_among q subjects) (f q) None
  found_rows f tells q [] = refl
  found_rows f tells q (s ∷ ss) = found_step f tells q s (filter_map f ss) (is_among q ss) (f s) (is_eq (subject_cmp q s)) refl refl (found_rows f tells q ss)

  above_rows_at : (f : Subject → Option R) → Tells at f → (y s : Subject) (rest : List R) (o : Option R) → f s ≡ o → subject_cmp y s ≡ Less → AreAbove y (map at rest) → AreAbove y (map at (cons_option o rest))
  above_rows_at f tells y s rest None is below all = all
  above_rows_at f tells y s rest (Some r) is below all = (rw (tells s r is) below, all)

  above_rows : (f : Subject → Option R) → Tells at f → (y : Subject) (subjects : List Subject) → AreAbove y subjects → AreAbove y (map at (filter_map f subjects))
  above_rows f tells y [] all = tt
  above_rows f tells y (s ∷ ss) all = above_rows_at f tells y s (filter_map f ss) (f s) refl all.0 (above_rows f tells y ss all.1)

  rise_rows_at : (f : Subject → Option R) → Tells at f → (s : Subject) (rest : List R) (o : Option R) → f s ≡ o → AreAbove s (map at rest) → IsStrictlySortedBy subject_cmp (map at rest) →
      IsStrictlySortedBy subject_cmp (map at (cons_option o rest))
  unfolding IsStrictlySortedBy
  rise_rows_at f tells s rest None is above up = up
  rise_rows_at f tells s rest (Some r) is above up = (rw (tells s r is) above, up)

  pub rise_rows : (f : Subject → Option R) → Tells at f → (subjects : List Subject) → IsStrictlySortedBy subject_cmp subjects → IsStrictlySortedBy subject_cmp (map at (filter_map f subjects))
  unfolding IsStrictlySortedBy
  rise_rows f tells [] up = tt
  rise_rows f tells (s ∷ ss) up = rise_rows_at f tells s (filter_map f ss) (f s) refl (above_rows f tells s ss up.0) (rise_rows f tells ss up.1)

  above_none : (q x : Subject) (o : Ordering) → subject_cmp q x ≡ o → o ≡ Less → is_eq (subject_cmp q x) ≡ false
  above_none q x o is less = rw (is ∙ less) refl

  -- nothing stands at a subject that is below all
  pub none_below : (q : Subject) (rows : List R) → AreAbove q (map at rows) → found at q rows ≡ None
  none_below q [] all = refl
  none_below q (r ∷ rs) all = rw (above_none q (at r) (subject_cmp q (at r)) refl all.0) (none_below q rs all.1)

  -- ---- rows whose subjects rise are known by what is found in them

  entries : List R → List (Subject × R)
  entries [] = []
  entries (r ∷ rs) = (at r, r) ∷ entries rs

  values : List (Subject × R) → List R
  values [] = []
  values (e ∷ es) = e.1 ∷ values es

  values-entries : (rs : List R) → values (entries rs) ≡ rs
  unfolding values entries
  values-entries [] = refl
  values-entries (r ∷ rs) = ap (λ xs. r ∷ xs) (values-entries rs)

  finmap_found : (q : Subject) (rs : List R) → finmap_find subject_cmp q (entries rs) ≡ found at q rs
  unfolding entries
  finmap_found q [] = refl
  finmap_found q (r ∷ rs) = ap (cond (is_eq (subject_cmp q (at r))) (Some r)) (finmap_found q rs)

  both : (a b : Bool) → a ≡ true → T b → T (a && b)
  both a b one two = rw one two

  all_below : (x : Subject) (rs : List R) → AreAbove x (map at rs) → T (below_all subject_cmp x (entries rs))
  unfolding entries
  all_below x [] above = tt
  all_below x (r ∷ rs) above = both (is_lt (subject_cmp x (at r))) (below_all subject_cmp x (entries rs)) (ap is_lt above.0) (all_below x rs above.1)

  both_hold : (a b : Bool) → T a → T b → T (a && b)
  both_hold true b one two = two
  both_hold false b one two = absurd one

  are_sorted : (rs : List R) → IsStrictlySortedBy subject_cmp (map at rs) → T (is_sorted subject_cmp (entries rs))
  unfolding IsStrictlySortedBy entries
  are_sorted [] up = tt
  are_sorted (r ∷ rs) up = both_hold (below_all subject_cmp (at r) (entries rs)) (is_sorted subject_cmp (entries rs)) (all_below (at r) rs up.0) (are_sorted rs up.1)

  pub rows_known : (rs ss : List R) → IsStrictlySortedBy subject_cmp (map at rs) → IsStrictlySortedBy subject_cmp (map at ss) → ((q : Subject) → found at q rs ≡ found at q ss) → rs ≡ ss
  rows_known rs ss up_rs up_ss same =
      sym (values-entries rs)
      ∙ ap values
      (same_entries subject_cmp subject_total subject_equal (entries rs) (entries ss) (are_sorted rs up_rs) (are_sorted ss up_ss) (λ q. finmap_found q rs ∙ same q ∙ sym (finmap_found q ss)))
      ∙ values-entries ss
