-- The subjects that were hit so far: which there are, and that they rise.
use Rattle.std.proofs.Common.{◌≡◌, Bool, true, false, cond, ◌||◌, List, [], ◌∷◌, is_some, Option, Some, refl, ap, sym, ◌∙◌}
use Rattle.std.specs.List.{list_any}
use Rattle.std.specs.List.Sorted.{IsStrictlySortedBy}
use Rattle.std.specs.declared.cmp.Ordering.{Ordering}
use Rattle.std.specs.declared.cmp.Ordering.TheVariants.{Less, Equal, Greater}
use Rattle.std.specs.Ordering.{is_eq, match_ordering, ordering_reverse}
use Rattle.std.specs.BTreeSet.{insert_key}
use Rattle.alert_states.specs.declared.event.Hit.{Hit}
use Rattle.alert_states.specs.declared.event.Subject.{Subject}
use Rattle.alert_states.specs.Subjects.{hit_in, marks, subject_cmp, subjects, with_hits}
use Rattle.alert_states.proofs.Orders.{subject_equal, subject_total}
use Rattle.alert_states.proofs.Rows.{AreAbove, above_lower, is_among}

-- ---- which there are

same_twice : (a b : Bool) → (a || b) ≡ (a || (a || b))
same_twice true b = refl
same_twice false b = refl

either_first : (a b c : Bool) → (a || (b || c)) ≡ (b || (a || c))
either_first true true c = refl
either_first true false c = refl
either_first false b c = refl

among_insert_at : (q k x : Subject) (xs more : List Subject) (o : Ordering) → subject_cmp k x ≡ o → is_among q more ≡ (is_eq (subject_cmp q k) || is_among q xs) →
    is_among q (match_ordering o (k ∷ x ∷ xs) (x ∷ xs) (x ∷ more)) ≡ (is_eq (subject_cmp q k) || (is_eq (subject_cmp q x) || is_among q xs))
among_insert_at q k x xs more Less at rest = refl
among_insert_at q k x xs more Equal at rest =
    same_twice (is_eq (subject_cmp q x)) (is_among q xs)
    ∙ ap (λ y. is_eq (subject_cmp q y) || (is_eq (subject_cmp q x) || is_among q xs)) (sym (subject_equal k x at))
among_insert_at q k x xs more Greater at rest =
    ap (λ b. is_eq (subject_cmp q x) || b) rest ∙ either_first (is_eq (subject_cmp q x)) (is_eq (subject_cmp q k)) (is_among q xs)

among_insert : (q k : Subject) (known : List Subject) → is_among q (insert_key subject_cmp known k) ≡ (is_eq (subject_cmp q k) || is_among q known)
among_insert q k [] = refl
among_insert q k (x ∷ xs) = among_insert_at q k x xs (insert_key subject_cmp xs k) (subject_cmp k x) refl (among_insert q k xs)

regrouped_at : (a b c : Bool) → ((a || b) || c) ≡ (b || (a || c))
regrouped_at true true c = refl
regrouped_at true false c = refl
regrouped_at false b c = refl

or_false : (b : Bool) → b ≡ (b || false)
or_false true = refl
or_false false = refl

found_at : (b : Bool) (h : Hit) (rest : Option Hit) → is_some (cond b (Some h) rest) ≡ (b || is_some rest)
found_at true h rest = refl
found_at false h rest = refl

-- of known subjects and hits
among_hits : (q : Subject) (known : List Subject) (hits : List Hit) → is_among q (with_hits known hits) ≡ (is_among q known || is_some (hit_in hits q))
among_hits q known [] = or_false (is_among q known)
among_hits q known (h ∷ hs) =
    among_hits q (insert_key subject_cmp known h.subject) hs
    ∙ ap (λ b. b || is_some (hit_in hs q)) (among_insert q h.subject known)
    ∙ regrouped_at (is_eq (subject_cmp q h.subject)) (is_among q known) (is_some (hit_in hs q))
    ∙ ap (λ b. is_among q known || b) (sym (found_at (is_eq (subject_cmp q h.subject)) h (hit_in hs q)))

turned : (a b : Bool) → (a || b) ≡ (b || a)
turned true true = refl
turned true false = refl
turned false true = refl
turned false false = refl

-- the subjects are those with a mark
pub among_subjects : (q : Subject) (past : List (List Hit)) → is_among q (subjects past) ≡ list_any is_some (marks past q)
among_subjects q [] = refl
among_subjects q (hits ∷ before) =
    among_hits q (subjects before) hits
    ∙ ap (λ b. b || is_some (hit_in hits q)) (among_subjects q before)
    ∙ turned (list_any is_some (marks before q)) (is_some (hit_in hits q))

-- ---- they rise

above_insert_at : (y k x : Subject) (xs more : List Subject) (o : Ordering) → subject_cmp y k ≡ Less → AreAbove y (x ∷ xs) → AreAbove y more →
    AreAbove y (match_ordering o (k ∷ x ∷ xs) (x ∷ xs) (x ∷ more))
above_insert_at y k x xs more Less below all rest = (below, all)
above_insert_at y k x xs more Equal below all rest = all
above_insert_at y k x xs more Greater below all rest = (all.0, rest)

above_insert : (y k : Subject) (known : List Subject) → subject_cmp y k ≡ Less → AreAbove y known → AreAbove y (insert_key subject_cmp known k)
above_insert y k [] below all = (below, tt)
above_insert y k (x ∷ xs) below all = above_insert_at y k x xs (insert_key subject_cmp xs k) (subject_cmp k x) below all (above_insert y k xs below all.1)

rise_insert_at : (k x : Subject) (xs more : List Subject) (o : Ordering) → subject_cmp k x ≡ o → IsStrictlySortedBy subject_cmp (x ∷ xs) → IsStrictlySortedBy subject_cmp more →
    (subject_cmp x k ≡ Less → AreAbove x more) → IsStrictlySortedBy subject_cmp (match_ordering o (k ∷ x ∷ xs) (x ∷ xs) (x ∷ more))
unfolding IsStrictlySortedBy
rise_insert_at k x xs more Less at up rest above = ((at, above_lower k x xs at up.0), up)
rise_insert_at k x xs more Equal at up rest above = up
rise_insert_at k x xs more Greater at up rest above = (above (subject_total.antisymm x k ∙ ap ordering_reverse at), rest)

rise_insert : (k : Subject) (known : List Subject) → IsStrictlySortedBy subject_cmp known → IsStrictlySortedBy subject_cmp (insert_key subject_cmp known k)
unfolding IsStrictlySortedBy
rise_insert k [] up = (tt, tt)
rise_insert k (x ∷ xs) up =
    rise_insert_at k x xs (insert_key subject_cmp xs k) (subject_cmp k x) refl up (rise_insert k xs up.1) (λ below. above_insert x k xs below up.0)

rise_hits : (known : List Subject) (hits : List Hit) → IsStrictlySortedBy subject_cmp known → IsStrictlySortedBy subject_cmp (with_hits known hits)
rise_hits known [] up = up
rise_hits known (h ∷ hs) up = rise_hits (insert_key subject_cmp known h.subject) hs (rise_insert h.subject known up)

pub rise_subjects : (past : List (List Hit)) → IsStrictlySortedBy subject_cmp (subjects past)
unfolding IsStrictlySortedBy
rise_subjects [] = tt
rise_subjects (hits ∷ before) = rise_hits (subjects before) hits (rise_subjects before)
