-- How much a cycle tells, in which order, and what a quiet book says.
use Rattle.std.proofs.Common.{◌≡◌, ℕ, ◌+◌, ◌%◌, ◌≤◌, Bool, true, false, cond, List, [], ◌∷◌, map, length, Option, Some, None, option_map, refl, ap, sym, ◌∙◌, arith}
use Rattle.std.proofs.lemmas.List.{length-map}
use Rattle.std.proofs.lemmas.List.Sums.{sum_by-cons}
use Rattle.std.specs.Prelude.{count_by, filter}
use Rattle.std.specs.List.{cons_option, filter_map}
use Rattle.std.specs.List.Sorted.{IsStrictlySortedBy}
use Rattle.std.specs.declared.cmp.Ordering.{Ordering}
use Rattle.std.specs.declared.cmp.Ordering.TheVariants.{Less, Equal, Greater}
use Rattle.std.specs.Ordering.{is_eq, match_ordering}
use Rattle.site_types.specs.declared.site.Confirm.{Confirm}
use Rattle.alert_states.specs.declared.entry.Entry.{Entry}
use Rattle.alert_states.specs.declared.entry.Update.{Update}
use Rattle.alert_states.specs.declared.event.Event.{Event}
use Rattle.alert_states.specs.declared.event.Hit.{Hit}
use Rattle.alert_states.specs.declared.event.HitData.{HitData}
use Rattle.alert_states.specs.declared.event.Status.{Status}
use Rattle.alert_states.specs.declared.event.Subject.{Subject}
use Rattle.alert_states.specs.declared.event.TheConstants.{ALERT_NUMBERS}
use Rattle.alert_states.specs.Events.{count_firsts, event_at, events, figures_at, firsts, is_first, number, status_at}
use Rattle.alert_states.specs.Held.{entry_at}
use Rattle.alert_states.specs.Merge.{hit_again, hit_first, unhit, updates}
use Rattle.alert_states.specs.States.{IsQuiet, is_live, is_on, live_subjects, window}
use Rattle.alert_states.specs.Steps.{begun_in, told, told_after}
use Rattle.alert_states.specs.Subjects.{AreInOrder, confirm_of, marks, subject_cmp, subjects}
use Rattle.alert_states.proofs.Cycles.{one_more, told_cycle}
use Rattle.alert_states.proofs.Known.{among_subjects, rise_subjects}
use Rattle.alert_states.proofs.Marks.{dead_is_off}
use Rattle.alert_states.proofs.Orders.{same_subject}
use Rattle.alert_states.proofs.Renewals.{take_any}
use Rattle.alert_states.proofs.Rows.{Tells, is_among, rise_rows}

-- ---- how much

one_told : (o : Option Event) (es : List Event) → length (cons_option o es) ≤ length es + 1
one_told None es = omega arith
one_told (Some e) es = omega arith

length-told : (confirms : List Confirm) (n : ℕ) (us : List Update) → length (told_after confirms n us) ≤ length us
length-told confirms n [] = omega arith
length-told confirms n (u ∷ us) =
    let rest = told_after confirms (n + begun_in confirms n u) us in
    let one = one_told (told confirms n u) rest in
    let again = length-told confirms (n + begun_in confirms n u) us in
    omega (arith, one, again)

order_length : (e : Entry) (h : Hit) (less equal more : List Update) (o : Ordering) (m : ℕ) → length less ≤ m → length equal ≤ m → length more ≤ m → length (match_ordering o (unhit e ∷ less) (hit_again e h ∷ equal) (hit_first h ∷ more)) ≤ m + 1
order_length e h less equal more Less m one two three = omega arith
order_length e h less equal more Equal m one two three = omega arith
order_length e h less equal more Greater m one two three = omega arith

length-updates : (es : List Entry) (hs : List Hit) → length (updates es hs) ≤ length es + length hs
length-updates [] hs = omega (arith, length-map hs hit_first)
length-updates (e ∷ es) [] = omega (arith, length-updates es [])
length-updates (e ∷ es) (h ∷ hs) =
    let one : length (updates es (h ∷ hs)) ≤ length es + length hs + 1 = omega (arith, length-updates es (h ∷ hs)) in
    let two : length (updates es hs) ≤ length es + length hs + 1 = omega (arith, length-updates es hs) in
    let three : length (updates (e ∷ es) hs) ≤ length es + length hs + 1 = omega (arith, length-updates (e ∷ es) hs) in
    let all = order_length e h (updates es (h ∷ hs)) (updates es hs) (updates (e ∷ es) hs) (subject_cmp e.subject h.subject) (length es + length hs + 1) one two three in
    omega (arith, all)

pub events_bounded : (confirms : List Confirm) (past : List (List Hit)) (hits : List Hit) → AreInOrder hits → length (events confirms (hits ∷ past)) ≤ length (live_subjects confirms past) + length hits
events_bounded confirms past hits up =
    let n = count_firsts confirms past % ALERT_NUMBERS in
    let entries = map (entry_at confirms past) (live_subjects confirms past) in
    let same : length (told_after confirms n (updates entries hits)) ≡ length (events confirms (hits ∷ past)) = ap length (told_cycle confirms past hits n up refl) in
    let some : length (told_after confirms n (updates entries hits)) ≤ length (updates entries hits) = length-told confirms n (updates entries hits) in
    let all : length (updates entries hits) ≤ length entries + length hits = length-updates entries hits in
    let kept : length entries ≡ length (live_subjects confirms past) = length-map (live_subjects confirms past) (entry_at confirms past) in
    omega (arith, same, some, all, kept)

-- ---- how many of them are First

abbrev pub tells_first : Event → Bool
tells_first e = is_first (Some e.status)

first_step : (s : Subject) (id : ℕ) (hit : Option HitData) (o : Option Status) (es : List Event) (ss : List Subject) → count_by tells_first es ≡ length ss →
    count_by tells_first (cons_option (option_map (λ now. let x : Event = record { subject = s; status = now; id = id; hit = hit } in x) o) es) ≡ length (cond (is_first o) (s ∷ ss) ss)
first_step s id hit None es ss same = same
first_step s id hit (Some now) es ss same =
    sum_by-cons (λ (e : Event). cond (tells_first e) 1 0) (record { subject = s; status = now; id = id; hit = hit }) es
    ∙ ap (λ n. cond (is_first (Some now)) 1 0 + n) same
    ∙ one_more s ss (is_first (Some now))

firsts_among : (confirms : List Confirm) (past : List (List Hit)) (ss : List Subject) → count_by tells_first (filter_map (event_at confirms past) ss) ≡ length (filter (λ s. is_first (status_at confirms past s)) ss)
firsts_among confirms past [] = refl
firsts_among confirms past (s ∷ ss) =
    first_step s (number confirms past s % ALERT_NUMBERS) (figures_at past s) (status_at confirms past s) (filter_map (event_at confirms past) ss) (filter (λ x. is_first (status_at confirms past x)) ss) (firsts_among confirms past ss)

pub firsts_are_told : (confirms : List Confirm) (past : List (List Hit)) → count_by (λ e. is_first (Some e.status)) (events confirms past) ≡ length (firsts confirms past)
firsts_are_told confirms past = firsts_among confirms past (subjects past)

-- ---- in which order

told_tells : (s : Subject) (id : ℕ) (hit : Option HitData) (o : Option Status) (e : Event) → option_map (λ now. let x : Event = record { subject = s; status = now; id = id; hit = hit } in x) o ≡ Some e → e.subject ≡ s
told_tells s id hit None e is = absurd (cc)
told_tells s id hit (Some now) e is =
    let x : Event = record { subject = s; status = now; id = id; hit = hit } in
    let same : x ≡ e = cc in
    sym (ap (λ (y : Event). y.subject) same)

event_tells : (confirms : List Confirm) (past : List (List Hit)) → Tells (λ (e : Event). e.subject) (event_at confirms past)
event_tells confirms past s e is = told_tells s (number confirms past s % ALERT_NUMBERS) (figures_at past s) (status_at confirms past s) e is

pub events_in_order : (confirms : List Confirm) (past : List (List Hit)) → IsStrictlySortedBy subject_cmp (map (λ e. e.subject) (events confirms past))
events_in_order confirms past = rise_rows (λ (e : Event). e.subject) (event_at confirms past) (event_tells confirms past) (subjects past) (rise_subjects past)

-- ---- quiet

none_live_at : (p : Subject → Bool) (s x : Subject) (xs : List Subject) (live same : Bool) → p x ≡ live → is_eq (subject_cmp s x) ≡ same → p s ≡ true → cond live (x ∷ filter p xs) (filter p xs) ≡ [] →
    (filter p xs ≡ [] → is_among s xs ≡ false) → is_among s (x ∷ xs) ≡ false
none_live_at p s x xs true same at_live at_same here none again = absurd (cc)
none_live_at p s x xs false true at_live at_same here none again = let also = ap p (same_subject s x at_same) in absurd (cc)
none_live_at p s x xs false false at_live at_same here none again = rw at_same (again none)

none_live : (p : Subject → Bool) (s : Subject) (xs : List Subject) → p s ≡ true → filter p xs ≡ [] → is_among s xs ≡ false
none_live p s [] here none = refl
none_live p s (x ∷ xs) here none = none_live_at p s x xs (p x) (is_eq (subject_cmp s x)) refl refl here none (none_live p s xs here)

quiet_at : (p : Subject → Bool) (s : Subject) (xs : List Subject) (live : Bool) → p s ≡ live → filter p xs ≡ [] → (is_among s xs ≡ false → p s ≡ false) → p s ≡ false
quiet_at p s xs true at none out = out (none_live p s xs at none)
quiet_at p s xs false at none out = at

pub quiet_is_off : (confirms : List Confirm) (past : List (List Hit)) (s : Subject) → IsQuiet confirms past → is_on (confirm_of confirms s.net) (marks past s) ≡ false
quiet_is_off confirms past s quiet =
    dead_is_off (confirm_of confirms s.net) (marks past s)
    (quiet_at (λ x. is_live (confirm_of confirms x.net) (marks past x)) s (subjects past) (is_live (confirm_of confirms s.net) (marks past s)) refl quiet
    (λ out. take_any (window (confirm_of confirms s.net)) (marks past s) (sym (among_subjects s past) ∙ out)))
