-- What a cycle keeps, tells and counts is what the definitions say.
use Rattle.std.proofs.Common.{◌≡◌, ℕ, ◌+◌, ◌%◌, Bool, true, false, cond, ◌||◌, List, [], ◌∷◌, ◌++◌, map, length, is_some, Option, Some, None, option_map, refl, ap, sym, subst, ◌∙◌, arith}
use Rattle.std.specs.Prelude.{filter}
use Rattle.std.specs.List.{cons_option, filter_map}
use Rattle.std.proofs.Math.Nat.{mod-add-mod}
use Rattle.site_types.specs.declared.site.Confirm.{Confirm}
use Rattle.alert_states.specs.declared.entry.Entry.{Entry}
use Rattle.alert_states.specs.declared.entry.Update.{Update}
use Rattle.alert_states.specs.declared.event.Event.{Event}
use Rattle.alert_states.specs.declared.event.Hit.{Hit}
use Rattle.alert_states.specs.declared.event.Subject.{Subject}
use Rattle.alert_states.specs.declared.event.TheConstants.{ALERT_NUMBERS}
use Rattle.alert_states.specs.Events.{count_below, count_firsts, event_at, events, figures_at, firsts, is_first, number, status_at}
use Rattle.alert_states.specs.Held.{Held, StandsFor, entry_at}
use Rattle.alert_states.specs.Merge.{updates}
use Rattle.alert_states.specs.States.{is_live, is_on, live_subjects, window}
use Rattle.alert_states.specs.Steps.{begun_in, count_begun, kept_after, kept_entry, number_of, renewed, told, told_after}
use Rattle.alert_states.specs.Subjects.{AreInOrder, confirm_of, hit_in, marks, subjects}
use Rattle.alert_states.proofs.Bits.{bits_of}
use Rattle.alert_states.proofs.Known.{rise_subjects}
use Rattle.alert_states.proofs.Numbering.{numbered, numbered_is, same_each}
use Rattle.alert_states.proofs.Renewals.{begins_now, begun_is, entries_rows, kept_is, kept_row, live_entry, live_update, neither, told_is, told_row, update_at, update_is, updates_rows}

-- ---- one subject after the other

first_none : (confirms : List Confirm) (past : List (List Hit)) (hits : List Hit) (s : Subject) → status_at confirms (hits ∷ past) s ≡ None → ◌≡◌ {A = ℕ} (cond (begins_now confirms (hits ∷ past) s) 1 0) 0
first_none confirms past hits s none = ap (λ o. cond (is_first o) 1 0) none

abbrev touched : List Confirm → List (List Hit) → List Hit → Subject → Bool
touched confirms past hits s = is_some (hit_in hits s) || is_live (confirm_of confirms s.net) (marks past s)

-- `so_far n us` goes on by `each n u` for each update, which is the subject's row
module _ {X : Type 0} (confirms : List Confirm) (past : List (List Hit)) (hits : List Hit) (so_far : ℕ → List Update → List X) (each : ℕ → Update → Option X) (row : ℕ → Subject → Option X)
    (none : (n : ℕ) → so_far n [] ≡ [])
    (on : (n : ℕ) (u : Update) (us : List Update) → so_far n (u ∷ us) ≡ cons_option (each n u) (so_far (n + begun_in confirms n u) us))
    (same : (n : ℕ) (s : Subject) → each n (live_update confirms past hits s) ≡ row n s)
    (no_row : (n : ℕ) (s : Subject) → is_live (confirm_of confirms s.net) (marks (hits ∷ past) s) ≡ false → status_at confirms (hits ∷ past) s ≡ None → row n s ≡ None) where
  run_step : (n : ℕ) (s : Subject) (ss : List Subject) (rest : List Update) (b : Bool) → touched confirms past hits s ≡ b → ((m : ℕ) → so_far m rest ≡ numbered (begins_now confirms (hits ∷ past)) row m ss) →
      so_far n (cons_option (cond b (Some (live_update confirms past hits s)) None) rest) ≡ numbered (begins_now confirms (hits ∷ past)) row n (s ∷ ss)
  run_step n s ss rest true at again =
      let u = live_update confirms past hits s in
      on n u rest
      ∙ ap (λ o. cons_option o (so_far (n + begun_in confirms n u) rest)) (same n s)
      ∙ ap (λ m. cons_option (row n s) (so_far (n + m) rest)) (begun_is confirms past hits n s)
      ∙ ap (λ xs. cons_option (row n s) xs) (again (n + cond (begins_now confirms (hits ∷ past) s) 1 0))
  run_step n s ss rest false at again =
      let dead = neither confirms past hits s at in
      let stays : n ≡ n + cond (begins_now confirms (hits ∷ past) s) 1 0 = omega (arith, first_none confirms past hits s dead.1) in
      again n
      ∙ ap (λ m. numbered (begins_now confirms (hits ∷ past)) row m ss) stays
      ∙ sym (ap (λ o. cons_option o (numbered (begins_now confirms (hits ∷ past)) row (n + cond (begins_now confirms (hits ∷ past) s) 1 0) ss)) (no_row n s dead.0 dead.1))

  run_is : (n : ℕ) (ss : List Subject) → so_far n (filter_map (update_at confirms past hits) ss) ≡ numbered (begins_now confirms (hits ∷ past)) row n ss
  run_is n [] = none n
  run_is n (s ∷ ss) =
      ap (λ o. so_far n (cons_option o (filter_map (update_at confirms past hits) ss))) (update_is confirms past hits s)
      ∙ run_step n s ss (filter_map (update_at confirms past hits) ss) (touched confirms past hits s) refl (λ m. run_is m ss)

kept_run : (confirms : List Confirm) (past : List (List Hit)) (hits : List Hit) (n : ℕ) (ss : List Subject) →
    kept_after confirms n (filter_map (update_at confirms past hits) ss) ≡ numbered (begins_now confirms (hits ∷ past)) (kept_row confirms past hits) n ss
kept_run confirms past hits =
    run_is confirms past hits (kept_after confirms) (λ n u. kept_entry (renewed confirms n u)) (kept_row confirms past hits)
    (λ n. refl) (λ n u us. refl) (kept_is confirms past hits) (λ n s dead none. rw dead refl)

told_run : (confirms : List Confirm) (past : List (List Hit)) (hits : List Hit) (n : ℕ) (ss : List Subject) →
    told_after confirms n (filter_map (update_at confirms past hits) ss) ≡ numbered (begins_now confirms (hits ∷ past)) (told_row confirms past hits) n ss
told_run confirms past hits =
    run_is confirms past hits (told_after confirms) (told confirms) (told_row confirms past hits)
    (λ n. refl) (λ n u us. refl) (told_is confirms past hits) (λ n s dead none. rw none refl)

pub one_more : (s : Subject) (ss : List Subject) (b : Bool) → cond b 1 0 + length ss ≡ length (cond b (s ∷ ss) ss)
one_more s ss true = omega arith
one_more s ss false = omega arith

count_step : (confirms : List Confirm) (past : List (List Hit)) (hits : List Hit) (n : ℕ) (s : Subject) (ss : List Subject) (rest : List Update) (b : Bool) → touched confirms past hits s ≡ b →
    ((m : ℕ) → count_begun confirms m rest ≡ length (filter (begins_now confirms (hits ∷ past)) ss)) →
    count_begun confirms n (cons_option (cond b (Some (live_update confirms past hits s)) None) rest) ≡ cond (begins_now confirms (hits ∷ past) s) 1 0 + length (filter (begins_now confirms (hits ∷ past)) ss)
count_step confirms past hits n s ss rest true at again =
    let u = live_update confirms past hits s in
    ap (λ m. m + count_begun confirms (n + begun_in confirms n u) rest) (begun_is confirms past hits n s)
    ∙ ap (λ m. cond (begins_now confirms (hits ∷ past) s) 1 0 + m) (again (n + begun_in confirms n u))
count_step confirms past hits n s ss rest false at again =
    let dead = neither confirms past hits s at in
    omega (arith, again n, first_none confirms past hits s dead.1)

count_run : (confirms : List Confirm) (past : List (List Hit)) (hits : List Hit) (n : ℕ) (ss : List Subject) →
    count_begun confirms n (filter_map (update_at confirms past hits) ss) ≡ length (filter (begins_now confirms (hits ∷ past)) ss)
count_run confirms past hits n [] = refl
count_run confirms past hits n (s ∷ ss) =
    ap (λ o. count_begun confirms n (cons_option o (filter_map (update_at confirms past hits) ss))) (update_is confirms past hits s)
    ∙ count_step confirms past hits n s ss (filter_map (update_at confirms past hits) ss) (touched confirms past hits s) refl (λ m. count_run confirms past hits m ss)
    ∙ one_more s (filter (begins_now confirms (hits ∷ past)) ss) (begins_now confirms (hits ∷ past) s)

-- ---- a cycle

-- an alert's number is told by the count of alerts modulo the numbers that there are
same_number : (b : Bool) (n began below old : ℕ) → n ≡ began % ALERT_NUMBERS → number_of (cond b (n + below) old) ≡ number_of (cond b (began + below) old)
same_number true n began below old same = ap (λ m. (m + below) % ALERT_NUMBERS) same ∙ mod-add-mod began ALERT_NUMBERS below
same_number false n began below old same = refl

abbrev pub held_entries : List Confirm → List (List Hit) → List Entry
held_entries confirms past = map (entry_at confirms past) (live_subjects confirms past)

abbrev below_in : List Confirm → List (List Hit) → Subject → ℕ
below_in confirms past s = count_below s (firsts confirms past)

kept_same : (confirms : List Confirm) (past : List (List Hit)) (hits : List Hit) (n : ℕ) (s : Subject) → n ≡ count_firsts confirms past % ALERT_NUMBERS →
    kept_row confirms past hits (n + below_in confirms (hits ∷ past) s) s ≡ live_entry confirms (hits ∷ past) s
kept_same confirms past hits n s same =
    let c = confirm_of confirms s.net in
    let ms = marks (hits ∷ past) s in
    let entry : ℕ → Entry = λ m. record { subject = s; on = is_on c ms; number = cond (is_on c ms) m 0; hits = bits_of (window c) ms } in
    ap (λ m. cond (is_live c ms) (Some (entry m)) None)
    (same_number (begins_now confirms (hits ∷ past) s) n (count_firsts confirms past) (below_in confirms (hits ∷ past) s) (number confirms past s) same)

told_same : (confirms : List Confirm) (past : List (List Hit)) (hits : List Hit) (n : ℕ) (s : Subject) → n ≡ count_firsts confirms past % ALERT_NUMBERS →
    told_row confirms past hits (n + below_in confirms (hits ∷ past) s) s ≡ event_at confirms (hits ∷ past) s
told_same confirms past hits n s same =
    ap (λ m. option_map (λ now. let e : Event = record { subject = s; status = now; id = m; hit = figures_at (hits ∷ past) s } in e) (status_at confirms (hits ∷ past) s))
    (same_number (begins_now confirms (hits ∷ past) s) n (count_firsts confirms past) (below_in confirms (hits ∷ past) s) (number confirms past s) same)

cycle_updates : (confirms : List Confirm) (past : List (List Hit)) (hits : List Hit) → AreInOrder hits → updates (held_entries confirms past) hits ≡ filter_map (update_at confirms past hits) (subjects (hits ∷ past))
cycle_updates confirms past hits up = ap (λ es. updates es hits) (entries_rows confirms past) ∙ updates_rows confirms past hits up

kept_cycle : (confirms : List Confirm) (past : List (List Hit)) (hits : List Hit) (n : ℕ) → AreInOrder hits → n ≡ count_firsts confirms past % ALERT_NUMBERS →
    kept_after confirms n (updates (held_entries confirms past) hits) ≡ held_entries confirms (hits ∷ past)
kept_cycle confirms past hits n up same =
    ap (kept_after confirms n) (cycle_updates confirms past hits up)
    ∙ kept_run confirms past hits n (subjects (hits ∷ past))
    ∙ numbered_is (begins_now confirms (hits ∷ past)) (kept_row confirms past hits) n (subjects (hits ∷ past)) (rise_subjects (hits ∷ past))
    ∙ same_each (λ s. kept_row confirms past hits (n + below_in confirms (hits ∷ past) s) s) (live_entry confirms (hits ∷ past)) (λ s. kept_same confirms past hits n s same) (subjects (hits ∷ past))
    ∙ sym (entries_rows confirms (hits ∷ past))

pub told_cycle : (confirms : List Confirm) (past : List (List Hit)) (hits : List Hit) (n : ℕ) → AreInOrder hits → n ≡ count_firsts confirms past % ALERT_NUMBERS →
    told_after confirms n (updates (held_entries confirms past) hits) ≡ events confirms (hits ∷ past)
told_cycle confirms past hits n up same =
    ap (told_after confirms n) (cycle_updates confirms past hits up)
    ∙ told_run confirms past hits n (subjects (hits ∷ past))
    ∙ numbered_is (begins_now confirms (hits ∷ past)) (told_row confirms past hits) n (subjects (hits ∷ past)) (rise_subjects (hits ∷ past))
    ∙ same_each (λ s. told_row confirms past hits (n + below_in confirms (hits ∷ past) s) s) (event_at confirms (hits ∷ past)) (λ s. told_same confirms past hits n s same) (subjects (hits ∷ past))

count_cycle : (confirms : List Confirm) (past : List (List Hit)) (hits : List Hit) (n : ℕ) → AreInOrder hits → count_begun confirms n (updates (held_entries confirms past) hits) ≡ length (firsts confirms (hits ∷ past))
count_cycle confirms past hits n up = ap (count_begun confirms n) (cycle_updates confirms past hits up) ∙ count_run confirms past hits n (subjects (hits ∷ past))

-- ---- a book that stands for the cycles so far

abbrev pub book_of : List Confirm → ℕ → List Entry → Held
book_of confirms n es = record { confirm = confirms; firsts = n; entries = es }

pub book_events : (held : Held) (confirms : List Confirm) (n : ℕ) (es : List Entry) (hits : List Hit) (past : List (List Hit)) (old new : List Event) → book_of confirms n es ≡ held → AreInOrder hits →
    new ≡ old ++ told_after confirms n (updates es hits) → StandsFor held past → new ≡ old ++ events held.confirm (hits ∷ past)
book_events held confirms n es hits past old new view up put stands =
    let here = subst (λ h. StandsFor h past) (sym view) stands in
    put
    ∙ ap (λ xs. old ++ told_after confirms n (updates xs hits)) here.entries
    ∙ ap (λ xs. old ++ xs) (told_cycle confirms past hits n up here.firsts)
    ∙ ap (λ (h : Held). old ++ events h.confirm (hits ∷ past)) view

pub book_firsts : (held : Held) (confirms : List Confirm) (n : ℕ) (es : List Entry) (hits : List Hit) (past : List (List Hit)) (begun : ℕ) → book_of confirms n es ≡ held → AreInOrder hits →
    begun ≡ count_begun confirms n (updates es hits) → StandsFor held past → begun ≡ length (firsts held.confirm (hits ∷ past))
book_firsts held confirms n es hits past begun view up put stands =
    let here = subst (λ h. StandsFor h past) (sym view) stands in
    put
    ∙ ap (λ xs. count_begun confirms n (updates xs hits)) here.entries
    ∙ count_cycle confirms past hits n up
    ∙ ap (λ (h : Held). length (firsts h.confirm (hits ∷ past))) view

pub book_stands : (held : Held) (confirms : List Confirm) (n : ℕ) (es : List Entry) (hits : List Hit) (past : List (List Hit)) (begun : ℕ) (kept : List Entry) → book_of confirms n es ≡ held → AreInOrder hits →
    kept ≡ kept_after confirms n (updates es hits) → begun ≡ count_begun confirms n (updates es hits) → StandsFor held past → StandsFor (book_of confirms ((n + begun) % ALERT_NUMBERS) kept) (hits ∷ past)
book_stands held confirms n es hits past begun kept view up put counted stands =
    let here = subst (λ h. StandsFor h past) (sym view) stands in
    let began = counted ∙ ap (λ xs. count_begun confirms n (updates xs hits)) here.entries ∙ count_cycle confirms past hits n up in
    record {
      entries = put ∙ ap (λ xs. kept_after confirms n (updates xs hits)) here.entries ∙ kept_cycle confirms past hits n up here.firsts;
      firsts =
          ap (λ m. (m + begun) % ALERT_NUMBERS) here.firsts
          ∙ mod-add-mod (count_firsts confirms past) ALERT_NUMBERS begun
          ∙ ap (λ m. (count_firsts confirms past + m) % ALERT_NUMBERS) began;
    }
