-- What a cycle makes of each subject, as the definitions say it.
use Rattle.std.proofs.Common.{◌≡◌, ℕ, zero, suc, Bool, true, false, cond, not, ◌||◌, ◌==◌, List, [], ◌∷◌, map, take, is_some, Option, Some, None, option_map, refl, ap, sym, ◌∙◌, arith}
use Rattle.std.specs.Prelude.{filter}
use Rattle.std.specs.List.{cons_option, filter_map, list_any}
use Rattle.std.specs.Ordering.{is_eq}
use Rattle.std.proofs.lemmas.Bool.Decides.{nat_tests}
use Rattle.site_types.specs.declared.site.Confirm.{Confirm}
use Rattle.alert_states.specs.declared.entry.Entry.{Entry}
use Rattle.alert_states.specs.declared.entry.Update.{Update}
use Rattle.alert_states.specs.declared.event.Event.{Event}
use Rattle.alert_states.specs.declared.event.Hit.{Hit}
use Rattle.alert_states.specs.declared.event.Subject.{Subject}
use Rattle.alert_states.specs.Events.{is_first, number, status_at}
use Rattle.alert_states.specs.Held.{entry_at}
use Rattle.alert_states.specs.Merge.{hit_again, hit_first, new_entry, unhit, updates}
use Rattle.alert_states.specs.States.{is_live, is_on, live_subjects, status_of, window}
use Rattle.alert_states.specs.Steps.{begun_in, entry_after, event_after, hits_after, kept_entry, number_after, number_of, on_after, renewed, told}
use Rattle.alert_states.specs.Subjects.{AreInOrder, confirm_of, hit_in, marks, subject_cmp, subjects}
use Rattle.alert_states.proofs.Bits.{bits_of}
use Rattle.alert_states.proofs.Known.{among_subjects, rise_subjects}
use Rattle.alert_states.proofs.Marks.{dead_bits, dead_is_off, dead_stays, hits_later, on_later}
use Rattle.alert_states.proofs.Orders.{same_subject}
use Rattle.alert_states.proofs.Rows.{Tells, found, found_rows, rise_rows, rows_known}
use Rattle.alert_states.proofs.UpdateRows.{entry_subject, found_updates, rise_updates, update_of, update_subject}

-- ---- what is kept

abbrev pub live_entry : List Confirm → List (List Hit) → Subject → Option Entry
live_entry confirms past s = cond (is_live (confirm_of confirms s.net) (marks past s)) (Some (entry_at confirms past s)) None

map_filter_at : {X Y : Type 0} (f : X → Y) (p : X → Bool) (x : X) (xs : List X) (rest : List Y) (b : Bool) → map f xs ≡ rest → map f (cond b (x ∷ xs) xs) ≡ cond b (f x ∷ rest) rest
map_filter_at f p x xs rest true same = ap (λ ys. f x ∷ ys) same
map_filter_at f p x xs rest false same = same

cons_at : {X : Type 0} (x : X) (xs : List X) (b : Bool) → cond b (x ∷ xs) xs ≡ cons_option (cond b (Some x) None) xs
cons_at x xs true = refl
cons_at x xs false = refl

map_filter : {X Y : Type 0} (f : X → Y) (p : X → Bool) (xs : List X) → map f (filter p xs) ≡ filter_map (λ x. cond (p x) (Some (f x)) None) xs
map_filter f p [] = refl
map_filter f p (x ∷ xs) =
    map_filter_at f p x (filter p xs) (filter_map (λ y. cond (p y) (Some (f y)) None) xs) (p x) (map_filter f p xs)
    ∙ cons_at (f x) (filter_map (λ y. cond (p y) (Some (f y)) None) xs) (p x)

pub entries_rows : (confirms : List Confirm) (past : List (List Hit)) → map (entry_at confirms past) (live_subjects confirms past) ≡ filter_map (live_entry confirms past) (subjects past)
entries_rows confirms past = map_filter (entry_at confirms past) (λ s. is_live (confirm_of confirms s.net) (marks past s)) (subjects past)

tells_at : (b : Bool) (e : Entry) (s : Subject) (r : Entry) → e.subject ≡ s → cond b (Some e) None ≡ Some r → r.subject ≡ s
tells_at true e s r about is = let same : e ≡ r = cc in ap (λ x. x.subject) (sym same) ∙ about
tells_at false e s r about is = absurd (cc)

tells_live : (confirms : List Confirm) (past : List (List Hit)) → Tells entry_subject (live_entry confirms past)
tells_live confirms past s r is = tells_at (is_live (confirm_of confirms s.net) (marks past s)) (entry_at confirms past s) s r refl is

pub take_any : (w : ℕ) (os : List (Option Hit)) → list_any is_some os ≡ false → list_any is_some (take w os) ≡ false
take_any zero os none = refl
take_any (suc w) [] none = refl
take_any (suc w) (None ∷ os) none = take_any w os none
take_any (suc w) (Some h ∷ os) none = absurd (cc)

only_live : (any live : Bool) (e : Entry) → (any ≡ false → live ≡ false) → cond any (cond live (Some e) None) None ≡ cond live (Some e) None
only_live true live e dead = refl
only_live false live e dead = rw (dead refl) refl

found_live : (confirms : List Confirm) (past : List (List Hit)) (q : Subject) → found entry_subject q (filter_map (live_entry confirms past) (subjects past)) ≡ live_entry confirms past q
found_live confirms past q =
    found_rows entry_subject (live_entry confirms past) (tells_live confirms past) q (subjects past)
    ∙ ap (λ b. cond b (live_entry confirms past q) None) (among_subjects q past)
    ∙ only_live (list_any is_some (marks past q)) (is_live (confirm_of confirms q.net) (marks past q)) (entry_at confirms past q) (take_any (window (confirm_of confirms q.net)) (marks past q))

-- ---- the updates

abbrev pub update_at : List Confirm → List (List Hit) → List Hit → Subject → Option Update
update_at confirms past hits s = update_of (live_entry confirms past s) (hit_in hits s)

hit_tells_at : (q : Subject) (b : Bool) (one two : Hit) (rest : Option Hit) → is_eq (subject_cmp q one.subject) ≡ b → (rest ≡ Some two → two.subject ≡ q) → cond b (Some one) rest ≡ Some two → two.subject ≡ q
hit_tells_at q true one two rest at later is = let same : one ≡ two = cc in ap (λ k. k.subject) (sym same) ∙ sym (same_subject q one.subject at)
hit_tells_at q false one two rest at later is = later is

pub hit_tells : (hits : List Hit) (q : Subject) (h : Hit) → hit_in hits q ≡ Some h → h.subject ≡ q
hit_tells [] q h is = absurd (cc)
hit_tells (x ∷ xs) q h is = hit_tells_at q (is_eq (subject_cmp q x.subject)) x h (hit_in xs q) refl (hit_tells xs q h) is

tells_of : (s : Subject) (kept : Option Entry) (hit : Option Hit) (u : Update) → ((e : Entry) → kept ≡ Some e → e.subject ≡ s) → ((h : Hit) → hit ≡ Some h → h.subject ≡ s) → update_of kept hit ≡ Some u → u.before.subject ≡ s
tells_of s None None u kept_is hit_is is = absurd (cc)
tells_of s None (Some h) u kept_is hit_is is = let same : hit_first h ≡ u = cc in ap (λ x. x.before.subject) (sym same) ∙ hit_is h refl
tells_of s (Some e) None u kept_is hit_is is = let same : unhit e ≡ u = cc in ap (λ x. x.before.subject) (sym same) ∙ kept_is e refl
tells_of s (Some e) (Some h) u kept_is hit_is is = let same : hit_again e h ≡ u = cc in ap (λ x. x.before.subject) (sym same) ∙ kept_is e refl

tells_update : (confirms : List Confirm) (past : List (List Hit)) (hits : List Hit) → Tells update_subject (update_at confirms past hits)
tells_update confirms past hits s u is = tells_of s (live_entry confirms past s) (hit_in hits s) u (tells_live confirms past s) (hit_tells hits s) is

only_known : (any live : Bool) (e : Entry) (hit : Option Hit) → (any ≡ false → live ≡ false) →
    cond (is_some hit || any) (update_of (cond live (Some e) None) hit) None ≡ update_of (cond live (Some e) None) hit
only_known true live e None dead = refl
only_known false live e None dead = rw (dead refl) refl
only_known any live e (Some h) dead = refl

-- the updates are those of the subjects that are kept or hit, in order
pub updates_rows : (confirms : List Confirm) (past : List (List Hit)) (hits : List Hit) → AreInOrder hits →
    updates (filter_map (live_entry confirms past) (subjects past)) hits ≡ filter_map (update_at confirms past hits) (subjects (hits ∷ past))
updates_rows confirms past hits up =
    let rising = rise_rows entry_subject (live_entry confirms past) (tells_live confirms past) (subjects past) (rise_subjects past) in
    rows_known update_subject (updates (filter_map (live_entry confirms past) (subjects past)) hits) (filter_map (update_at confirms past hits) (subjects (hits ∷ past)))
    (rise_updates (filter_map (live_entry confirms past) (subjects past)) hits rising up)
    (rise_rows update_subject (update_at confirms past hits) (tells_update confirms past hits) (subjects (hits ∷ past)) (rise_subjects (hits ∷ past)))
    (λ q. found_updates q (filter_map (live_entry confirms past) (subjects past)) hits rising up
    ∙ ap (λ o. update_of o (hit_in hits q)) (found_live confirms past q)
    ∙ sym (found_rows update_subject (update_at confirms past hits) (tells_update confirms past hits) q (subjects (hits ∷ past))
    ∙ ap (λ b. cond b (update_at confirms past hits q) None) (among_subjects q (hits ∷ past))
    ∙ only_known (list_any is_some (marks past q)) (is_live (confirm_of confirms q.net) (marks past q)) (entry_at confirms past q) (hit_in hits q) (take_any (window (confirm_of confirms q.net)) (marks past q))))

-- ---- one subject

same_entry : (s : Subject) (a b : Bool) (m n i j : ℕ) → a ≡ b → m ≡ n → i ≡ j → (let e : Entry = record { subject = s; on = a; number = m; hits = i } in e) ≡ record { subject = s; on = b; number = n; hits = j }
same_entry s a b m n i j one two three = rw (one, two, three) refl

is_zero : (n : ℕ) → (n == 0) ≡ true → n ≡ 0
is_zero n e = grind (arith, nat_tests)

off_number : (on : Bool) (n : ℕ) → on ≡ false → cond on n 0 ≡ 0
off_number true n off = absurd (cc)
off_number false n off = refl

-- a subject that isn't live has the entry of a new one
fresh : (confirms : List Confirm) (past : List (List Hit)) (s : Subject) → is_live (confirm_of confirms s.net) (marks past s) ≡ false → entry_at confirms past s ≡ new_entry s
fresh confirms past s dead =
    let c = confirm_of confirms s.net in
    let off = dead_is_off c (marks past s) dead in
    same_entry s (is_on c (marks past s)) false (cond (is_on c (marks past s)) (number_of (number confirms past s)) 0) 0 (bits_of (window c) (marks past s)) 0
    off (off_number (is_on c (marks past s)) (number_of (number confirms past s)) off) (is_zero (bits_of (window c) (marks past s)) (dead_bits c (marks past s) ∙ ap not dead))

abbrev pub live_update : List Confirm → List (List Hit) → List Hit → Subject → Update
live_update confirms past hits s = record { before = entry_at confirms past s; hit = hit_in hits s }

update_is_at : (s : Subject) (e : Entry) (live : Bool) (hit : Option Hit) → (live ≡ false → e ≡ new_entry s) → ((h : Hit) → hit ≡ Some h → h.subject ≡ s) →
    update_of (cond live (Some e) None) hit ≡ cond (is_some hit || live) (Some (record { before = e; hit = hit })) None
update_is_at s e true None new about = refl
update_is_at s e true (Some h) new about = refl
update_is_at s e false None new about = refl
update_is_at s e false (Some h) new about = ap (λ x. Some (hit_again x h)) (ap new_entry (about h refl) ∙ sym (new refl))

pub update_is : (confirms : List Confirm) (past : List (List Hit)) (hits : List Hit) (s : Subject) →
    update_at confirms past hits s ≡ cond (is_some (hit_in hits s) || is_live (confirm_of confirms s.net) (marks past s)) (Some (live_update confirms past hits s)) None
update_is confirms past hits s =
    update_is_at s (entry_at confirms past s) (is_live (confirm_of confirms s.net) (marks past s)) (hit_in hits s) (fresh confirms past s) (hit_tells hits s)

-- ---- what is kept and told of it, after so many alerts

abbrev pub begins_now : List Confirm → List (List Hit) → Subject → Bool
begins_now confirms past s = is_first (status_at confirms past s)

abbrev pub kept_row : List Confirm → List (List Hit) → List Hit → ℕ → Subject → Option Entry
kept_row confirms past hits n s =
    let c = confirm_of confirms s.net in
    let on = is_on c (marks (hits ∷ past) s) in
    cond (is_live c (marks (hits ∷ past) s))
    (Some (record { subject = s; on = on; number = cond on (number_of (cond (begins_now confirms (hits ∷ past) s) n (number confirms past s))) 0; hits = bits_of (window c) (marks (hits ∷ past) s) }))
    None

abbrev pub told_row : List Confirm → List (List Hit) → List Hit → ℕ → Subject → Option Event
told_row confirms past hits n s =
    option_map
    (λ now. record { subject = s; status = now; id = number_of (cond (begins_now confirms (hits ∷ past) s) n (number confirms past s)); hit = option_map (λ h. h.figures) (hit_in hits s) })
    (status_at confirms (hits ∷ past) s)

number_is : (was now : Bool) (n old : ℕ) → number_after was now (cond was (number_of old) 0) (number_of n) ≡ cond now (number_of (cond (is_first (status_of was now)) n old)) 0
number_is false false n old = refl
number_is false true n old = refl
number_is true false n old = refl
number_is true true n old = refl

abbrev entry_with : Subject → Bool → ℕ → ℕ → Entry
entry_with s on number hits = record { subject = s; on = on; number = number; hits = hits }

renewed_is : (c : Confirm) (s : Subject) (ms : List (Option Hit)) (now : Option Hit) (n old : ℕ) →
    entry_after c (number_of n) (record { before = entry_with s (is_on c ms) (cond (is_on c ms) (number_of old) 0) (bits_of (window c) ms); hit = now })
    ≡ entry_with s (is_on c (now ∷ ms)) (cond (is_on c (now ∷ ms)) (number_of (cond (is_first (status_of (is_on c ms) (is_on c (now ∷ ms)))) n old)) 0) (bits_of (window c) (now ∷ ms))
renewed_is c s ms now n old =
    let was = is_on c ms in
    let kept = cond was (number_of old) 0 in
    ap (λ hits. entry_with s (on_after c was hits now) (number_after was (on_after c was hits now) kept (number_of n)) hits) (hits_later c ms now)
    ∙ ap (λ on. entry_with s on (number_after was on kept (number_of n)) (bits_of (window c) (now ∷ ms))) (on_later c ms now)
    ∙ ap (λ m. entry_with s (is_on c (now ∷ ms)) m (bits_of (window c) (now ∷ ms))) (number_is was (is_on c (now ∷ ms)) n old)

kept_at : (e : Entry) (live : Bool) → (e.hits == 0) ≡ not live → kept_entry e ≡ cond live (Some e) None
kept_at e true none = rw none refl
kept_at e false none = rw none refl

pub kept_is : (confirms : List Confirm) (past : List (List Hit)) (hits : List Hit) (n : ℕ) (s : Subject) → kept_entry (renewed confirms n (live_update confirms past hits s)) ≡ kept_row confirms past hits n s
kept_is confirms past hits n s =
    let c = confirm_of confirms s.net in
    let ms = marks past s in
    let now = hit_in hits s in
    ap kept_entry (renewed_is c s ms now n (number confirms past s))
    ∙ kept_at (entry_with s (is_on c (now ∷ ms)) (cond (is_on c (now ∷ ms)) (number_of (cond (is_first (status_of (is_on c ms) (is_on c (now ∷ ms)))) n (number confirms past s))) 0) (bits_of (window c) (now ∷ ms)))
    (is_live c (now ∷ ms)) (dead_bits c (now ∷ ms))

on_now : (c : Confirm) (ms : List (Option Hit)) (now : Option Hit) → on_after c (is_on c ms) (hits_after c (bits_of (window c) ms) now) now ≡ is_on c (now ∷ ms)
on_now c ms now = ap (λ hits. on_after c (is_on c ms) hits now) (hits_later c ms now) ∙ on_later c ms now

told_at : (s : Subject) (was now : Bool) (n old : ℕ) (hit : Option Hit) →
    event_after (number_of n) (record { before = entry_with s was (cond was (number_of old) 0) 0; hit = hit }) now
    ≡ option_map (λ status. record { subject = s; status = status; id = number_of (cond (is_first (status_of was now)) n old); hit = option_map (λ h. h.figures) hit }) (status_of was now)
told_at s false false n old hit = refl
told_at s false true n old hit = refl
told_at s true false n old hit = refl
told_at s true true n old hit = refl

pub told_is : (confirms : List Confirm) (past : List (List Hit)) (hits : List Hit) (n : ℕ) (s : Subject) → told confirms n (live_update confirms past hits s) ≡ told_row confirms past hits n s
told_is confirms past hits n s =
    let c = confirm_of confirms s.net in
    let ms = marks past s in
    let now = hit_in hits s in
    ap (λ on. event_after (number_of n) (live_update confirms past hits s) on) (on_now c ms now)
    ∙ told_at s (is_on c ms) (is_on c (now ∷ ms)) n (number confirms past s) now

pub begun_is : (confirms : List Confirm) (past : List (List Hit)) (hits : List Hit) (n : ℕ) (s : Subject) → begun_in confirms n (live_update confirms past hits s) ≡ cond (begins_now confirms (hits ∷ past) s) 1 0
begun_is confirms past hits n s =
    let c = confirm_of confirms s.net in
    let ms = marks past s in
    ap (λ on. cond (is_first (status_of (is_on c ms) on)) 1 0) (on_now c ms (hit_in hits s))

-- ---- of a subject that is neither kept nor hit nothing is kept or told

neither_at : (c : Confirm) (ms : List (Option Hit)) (now : Option Hit) (live : Bool) → is_live c ms ≡ live → (is_some now || live) ≡ false → (is_live c (now ∷ ms) ≡ false) × (status_of (is_on c ms) (is_on c (now ∷ ms)) ≡ None)
neither_at c ms None true at none = absurd (cc)
neither_at c ms None false at none =
    let later = dead_stays c ms at in
    let off = dead_is_off c ms at in
    let still = dead_is_off c (None ∷ ms) later in
    (later, ap (λ b. status_of b (is_on c (None ∷ ms))) off ∙ ap (status_of false) still)
neither_at c ms (Some h) live at none = absurd (cc)

pub neither : (confirms : List Confirm) (past : List (List Hit)) (hits : List Hit) (s : Subject) → (is_some (hit_in hits s) || is_live (confirm_of confirms s.net) (marks past s)) ≡ false →
    (is_live (confirm_of confirms s.net) (marks (hits ∷ past) s) ≡ false) × (status_at confirms (hits ∷ past) s ≡ None)
neither confirms past hits s none = neither_at (confirm_of confirms s.net) (marks past s) (hit_in hits s) (is_live (confirm_of confirms s.net) (marks past s)) refl none
