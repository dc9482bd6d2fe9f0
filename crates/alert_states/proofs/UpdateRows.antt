-- Entries and hits side by side: which updates there are, and that their subjects rise.
use Rattle.std.proofs.Common.{◌≡◌, Bool, true, false, cond, List, [], ◌∷◌, map, Option, Some, None, refl, ap, sym, ◌∙◌}
use Rattle.std.specs.List.Sorted.{IsStrictlySortedBy}
use Rattle.std.specs.declared.cmp.Ordering.{Ordering}
use Rattle.std.specs.declared.cmp.Ordering.TheVariants.{Less, Equal, Greater}
use Rattle.std.specs.Ordering.{is_eq, match_ordering, ordering_reverse}
use Rattle.alert_states.specs.declared.entry.Entry.{Entry}
use Rattle.alert_states.specs.declared.entry.Update.{Update}
use Rattle.alert_states.specs.declared.event.Hit.{Hit}
use Rattle.alert_states.specs.declared.event.Subject.{Subject}
use Rattle.alert_states.specs.Merge.{hit_again, hit_first, unhit, updates}
use Rattle.alert_states.specs.Subjects.{subject_cmp}
use Rattle.alert_states.proofs.Orders.{same_subject, subject_equal, subject_total}
use Rattle.alert_states.proofs.Rows.{AreAbove, above_lower, found, none_below}

abbrev pub entry_subject : Entry → Subject
entry_subject e = e.subject

abbrev pub hit_subject : Hit → Subject
hit_subject h = h.subject

abbrev pub update_subject : Update → Subject
update_subject u = u.before.subject

-- the update of a subject, by what is kept of it and its hit
abbrev pub update_of : Option Entry → Option Hit → Option Update
update_of None None = None
update_of None (Some h) = Some (hit_first h)
update_of (Some e) None = Some (unhit e)
update_of (Some e) (Some h) = Some (hit_again e h)

-- ---- what is found

first_hits : (q : Subject) (hs : List Hit) → found update_subject q (map hit_first hs) ≡ update_of None (found hit_subject q hs)
first_hits q [] = refl
first_hits q (h ∷ hs) = elim (is_eq (subject_cmp q h.subject)) as (λ b. cond b (Some (hit_first h)) (found update_subject q (map hit_first hs)) ≡ update_of None (cond b (Some h) (found hit_subject q hs))) [ true ↦ refl | false ↦ first_hits q hs ]

only_kept : (q : Subject) (e : Entry) (hs : List Hit) (rest : List Update) (kept : Option Entry) (b : Bool) → is_eq (subject_cmp q e.subject) ≡ b →
    (b ≡ true → found hit_subject q hs ≡ None) → found update_subject q rest ≡ update_of kept (found hit_subject q hs) →
    cond b (Some (unhit e)) (found update_subject q rest) ≡ update_of (cond b (Some e) kept) (found hit_subject q hs)
only_kept q e hs rest kept true at none again = rw (none refl) refl
only_kept q e hs rest kept false at none again = again

above_from : (q x : Subject) (subjects : List Subject) → is_eq (subject_cmp q x) ≡ true → AreAbove x subjects → AreAbove q subjects
above_from q x subjects same above = rw (same_subject q x same) above

found_less : (q : Subject) (e : Entry) (h : Hit) (hs : List Hit) (rest : List Update) (kept : Option Entry) → subject_cmp e.subject h.subject ≡ Less → AreAbove h.subject (map hit_subject hs) →
    found update_subject q rest ≡ update_of kept (found hit_subject q (h ∷ hs)) →
    found update_subject q (unhit e ∷ rest) ≡ update_of (cond (is_eq (subject_cmp q e.subject)) (Some e) kept) (found hit_subject q (h ∷ hs))
found_less q e h hs rest kept below above again =
    only_kept q e (h ∷ hs) rest kept (is_eq (subject_cmp q e.subject)) refl
    (λ same. none_below hit_subject q (h ∷ hs) (above_from q e.subject (map hit_subject (h ∷ hs)) same (below, above_lower e.subject h.subject (map hit_subject hs) below above)))
    again

found_equal : (q : Subject) (e : Entry) (h : Hit) (hs : List Hit) (rest : List Update) (kept : Option Entry) (b : Bool) → e.subject ≡ h.subject → is_eq (subject_cmp q e.subject) ≡ b →
    found update_subject q rest ≡ update_of kept (found hit_subject q hs) →
    cond b (Some (hit_again e h)) (found update_subject q rest) ≡ update_of (cond b (Some e) kept) (cond (is_eq (subject_cmp q h.subject)) (Some h) (found hit_subject q hs))
found_equal q e h hs rest kept true same at again =
    let also : is_eq (subject_cmp q h.subject) ≡ true = ap (λ s. is_eq (subject_cmp q s)) (sym same) ∙ at in
    rw also refl
found_equal q e h hs rest kept false same at again =
    let neither : is_eq (subject_cmp q h.subject) ≡ false = ap (λ s. is_eq (subject_cmp q s)) (sym same) ∙ at in
    rw neither again

only_hit : (q : Subject) (h : Hit) (hs : List Hit) (rest : List Update) (kept : Option Entry) (b : Bool) → (b ≡ true → kept ≡ None) →
    found update_subject q rest ≡ update_of kept (found hit_subject q hs) →
    cond b (Some (hit_first h)) (found update_subject q rest) ≡ update_of kept (cond b (Some h) (found hit_subject q hs))
only_hit q h hs rest kept true none again = rw (none refl) refl
only_hit q h hs rest kept false none again = again

found_greater : (q : Subject) (e : Entry) (es : List Entry) (h : Hit) (hs : List Hit) (rest : List Update) → subject_cmp h.subject e.subject ≡ Less → AreAbove e.subject (map entry_subject es) →
    found update_subject q rest ≡ update_of (found entry_subject q (e ∷ es)) (found hit_subject q hs) →
    found update_subject q (hit_first h ∷ rest) ≡ update_of (found entry_subject q (e ∷ es)) (found hit_subject q (h ∷ hs))
found_greater q e es h hs rest below above again =
    only_hit q h hs rest (found entry_subject q (e ∷ es)) (is_eq (subject_cmp q h.subject))
    (λ same. none_below entry_subject q (e ∷ es) (above_from q h.subject (map entry_subject (e ∷ es)) same (below, above_lower h.subject e.subject (map entry_subject es) below above)))
    again

found_order : (q : Subject) (e : Entry) (es : List Entry) (h : Hit) (hs : List Hit) (less equal more : List Update) (o : Ordering) → subject_cmp e.subject h.subject ≡ o →
    AreAbove e.subject (map entry_subject es) → AreAbove h.subject (map hit_subject hs) →
    found update_subject q less ≡ update_of (found entry_subject q es) (found hit_subject q (h ∷ hs)) →
    found update_subject q equal ≡ update_of (found entry_subject q es) (found hit_subject q hs) →
    found update_subject q more ≡ update_of (found entry_subject q (e ∷ es)) (found hit_subject q hs) →
    found update_subject q (match_ordering o (unhit e ∷ less) (hit_again e h ∷ equal) (hit_first h ∷ more)) ≡ update_of (found entry_subject q (e ∷ es)) (found hit_subject q (h ∷ hs))
found_order q e es h hs less equal more Less at above_e above_h one two three = found_less q e h hs less (found entry_subject q es) at above_h one
found_order q e es h hs less equal more Equal at above_e above_h one two three =
    found_equal q e h hs equal (found entry_subject q es) (is_eq (subject_cmp q e.subject)) (subject_equal e.subject h.subject at) refl two
found_order q e es h hs less equal more Greater at above_e above_h one two three =
    found_greater q e es h hs more (subject_total.antisymm h.subject e.subject ∙ ap ordering_reverse at) above_e three

none_found : (q : Subject) (e : Entry) (es : List Entry) (rest : List Update) → found update_subject q rest ≡ update_of (found entry_subject q es) None →
    found update_subject q (unhit e ∷ rest) ≡ update_of (found entry_subject q (e ∷ es)) None
none_found q e es rest again = elim (is_eq (subject_cmp q e.subject)) as (λ b. cond b (Some (unhit e)) (found update_subject q rest) ≡ update_of (cond b (Some e) (found entry_subject q es)) None) [ true ↦ refl | false ↦ again ]

-- at each subject stands the update of what is kept of it and its hit
pub found_updates : (q : Subject) (es : List Entry) (hs : List Hit) → IsStrictlySortedBy subject_cmp (map entry_subject es) → IsStrictlySortedBy subject_cmp (map hit_subject hs) →
    found update_subject q (updates es hs) ≡ update_of (found entry_subject q es) (found hit_subject q hs)
unfolding IsStrictlySortedBy
found_updates q [] hs up_e up_h = first_hits q hs
found_updates q (e ∷ es) [] up_e up_h = none_found q e es (updates es []) (found_updates q es [] up_e.1 up_h)
found_updates q (e ∷ es) (h ∷ hs) up_e up_h =
    found_order q e es h hs (updates es (h ∷ hs)) (updates es hs) (updates (e ∷ es) hs) (subject_cmp e.subject h.subject) refl up_e.0 up_h.0
    (found_updates q es (h ∷ hs) up_e.1 up_h) (found_updates q es hs up_e.1 up_h.1) (found_updates q (e ∷ es) hs up_e up_h.1)

-- ---- they rise

above_hits : (x : Subject) (hs : List Hit) → AreAbove x (map hit_subject hs) → AreAbove x (map update_subject (map hit_first hs))
above_hits x [] all = tt
above_hits x (h ∷ hs) all = (all.0, above_hits x hs all.1)

above_order : (x : Subject) (e : Entry) (h : Hit) (less equal more : List Update) (o : Ordering) → subject_cmp x e.subject ≡ Less → subject_cmp x h.subject ≡ Less →
    AreAbove x (map update_subject less) → AreAbove x (map update_subject equal) → AreAbove x (map update_subject more) →
    AreAbove x (map update_subject (match_ordering o (unhit e ∷ less) (hit_again e h ∷ equal) (hit_first h ∷ more)))
above_order x e h less equal more Less at_e at_h one two three = (at_e, one)
above_order x e h less equal more Equal at_e at_h one two three = (at_e, two)
above_order x e h less equal more Greater at_e at_h one two three = (at_h, three)

above_updates : (x : Subject) (es : List Entry) (hs : List Hit) → AreAbove x (map entry_subject es) → AreAbove x (map hit_subject hs) → AreAbove x (map update_subject (updates es hs))
above_updates x [] hs all_e all_h = above_hits x hs all_h
above_updates x (e ∷ es) [] all_e all_h = (all_e.0, above_updates x es [] all_e.1 all_h)
above_updates x (e ∷ es) (h ∷ hs) all_e all_h =
    above_order x e h (updates es (h ∷ hs)) (updates es hs) (updates (e ∷ es) hs) (subject_cmp e.subject h.subject) all_e.0 all_h.0
    (above_updates x es (h ∷ hs) all_e.1 all_h) (above_updates x es hs all_e.1 all_h.1) (above_updates x (e ∷ es) hs all_e all_h.1)

rise_first : (hs : List Hit) → IsStrictlySortedBy subject_cmp (map hit_subject hs) → IsStrictlySortedBy subject_cmp (map update_subject (map hit_first hs))
unfolding IsStrictlySortedBy
rise_first [] up = tt
rise_first (h ∷ hs) up = (above_hits h.subject hs up.0, rise_first hs up.1)

rise_order : (e : Entry) (es : List Entry) (h : Hit) (hs : List Hit) (o : Ordering) → subject_cmp e.subject h.subject ≡ o →
    AreAbove e.subject (map entry_subject es) → AreAbove h.subject (map hit_subject hs) →
    IsStrictlySortedBy subject_cmp (map update_subject (updates es (h ∷ hs))) → IsStrictlySortedBy subject_cmp (map update_subject (updates es hs)) → IsStrictlySortedBy subject_cmp (map update_subject (updates (e ∷ es) hs)) →
    IsStrictlySortedBy subject_cmp (map update_subject (match_ordering o (unhit e ∷ updates es (h ∷ hs)) (hit_again e h ∷ updates es hs) (hit_first h ∷ updates (e ∷ es) hs)))
unfolding IsStrictlySortedBy
rise_order e es h hs Less at above_e above_h one two three =
    (above_updates e.subject es (h ∷ hs) above_e (at, above_lower e.subject h.subject (map hit_subject hs) at above_h), one)
rise_order e es h hs Equal at above_e above_h one two three =
    (above_updates e.subject es hs above_e (rw (subject_equal e.subject h.subject at) above_h), two)
rise_order e es h hs Greater at above_e above_h one two three =
    let below : subject_cmp h.subject e.subject ≡ Less = subject_total.antisymm h.subject e.subject ∙ ap ordering_reverse at in
    (above_updates h.subject (e ∷ es) hs (below, above_lower h.subject e.subject (map entry_subject es) below above_e) above_h, three)

pub rise_updates : (es : List Entry) (hs : List Hit) → IsStrictlySortedBy subject_cmp (map entry_subject es) → IsStrictlySortedBy subject_cmp (map hit_subject hs) →
    IsStrictlySortedBy subject_cmp (map update_subject (updates es hs))
unfolding IsStrictlySortedBy
rise_updates [] hs up_e up_h = rise_first hs up_h
rise_updates (e ∷ es) [] up_e up_h = (above_updates e.subject es [] up_e.0 tt, rise_updates es [] up_e.1 up_h)
rise_updates (e ∷ es) (h ∷ hs) up_e up_h =
    rise_order e es h hs (subject_cmp e.subject h.subject) refl up_e.0 up_h.0
    (rise_updates es (h ∷ hs) up_e.1 up_h) (rise_updates es hs up_e.1 up_h.1) (rise_updates (e ∷ es) hs up_e up_h.1)
