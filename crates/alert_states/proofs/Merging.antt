-- Entries and hits side by side: how the list of updates goes on.
use Rattle.std.proofs.Common.{◌≡◌, ℕ, ◌+◌, ◌-◌, List, [], ◌∷◌, ◌++◌, length, drop, take, Option, Some, None, slice_get, refl, ap, sym, ◌∙◌, append_assoc, arith, length-drop}
use Rattle.std.proofs.lemmas.List.{append-nil, drop-drop, take_all}
use Rattle.std.specs.List.{cons_option}
use Rattle.site_types.specs.declared.site.Confirm.{Confirm}
use Rattle.std.specs.declared.cmp.Ordering.TheVariants.{Less, Greater}
use Rattle.alert_states.specs.declared.entry.Entry.{Entry}
use Rattle.alert_states.specs.declared.entry.Update.{Update}
use Rattle.alert_states.specs.declared.event.Event.{Event}
use Rattle.alert_states.specs.declared.event.Hit.{Hit}
use Rattle.alert_states.specs.Merge.{hit_first, unhit, updates}
use Rattle.alert_states.specs.Steps.{begun_in, count_begun, kept_after, kept_entry, renewed, told, told_after}
use Rattle.alert_states.specs.Subjects.{subject_cmp}

-- the lesser subject is only kept
pub next_less : (es : List Entry) (hs : List Hit) (e : Entry) (h : Hit) → slice_get es 0 ≡ Some e → slice_get hs 0 ≡ Some h → subject_cmp e.subject h.subject ≡ Less →
    updates es hs ≡ unhit e ∷ updates (drop 1 es) hs
next_less [] hs e h first next order = absurd (cc)
next_less (x ∷ xs) [] e h first next order = absurd (cc)
next_less (x ∷ xs) (y ∷ ys) e h first next order =
    let one : x ≡ e = cc in
    let two : y ≡ h = cc in
    rw (one, two, order) refl

-- the lesser subject is only hit
pub next_greater : (es : List Entry) (hs : List Hit) (e : Entry) (h : Hit) → slice_get es 0 ≡ Some e → slice_get hs 0 ≡ Some h → subject_cmp e.subject h.subject ≡ Greater →
    updates es hs ≡ hit_first h ∷ updates es (drop 1 hs)
next_greater [] hs e h first next order = absurd (cc)
next_greater (x ∷ xs) [] e h first next order = absurd (cc)
next_greater (x ∷ xs) (y ∷ ys) e h first next order =
    let one : x ≡ e = cc in
    let two : y ≡ h = cc in
    let here : subject_cmp x.subject y.subject ≡ Greater = rw (one, two) order in
    rw here (ap (λ k. hit_first k ∷ updates (x ∷ xs) ys) two)

-- ---- one more update put

-- a list from a place on, as a range takes it
pub rest_of : {X : Type 0} (i : ℕ) (xs : List X) → take (length xs - i) (drop i xs) ≡ drop i xs
rest_of i xs = take_all (length xs - i) (drop i xs) (omega (arith, length-drop i xs))

put_option : {X : Type 0} (before : List X) (o : Option X) (after : List X) → (before ++ cons_option o []) ++ after ≡ before ++ cons_option o after
put_option before None after = ap (λ xs. xs ++ after) (append-nil before)
put_option before (Some x) after = append_assoc before (x ∷ []) after

later : (es : List Entry) (hs : List Hit) (i j a d : ℕ) → updates (drop a (drop i es)) (drop d (drop j hs)) ≡ updates (drop (i + a) es) (drop (j + d) hs)
later es hs i j a d = rw (drop-drop a i es, drop-drop d j hs) refl

regrouped : (a r one c : ℕ) → r ≡ one → (a + r) + c ≡ a + (one + c)
regrouped a r one c e = omega arith

-- `so_far n us` goes on by `each n u` for each update
module _ {X : Type 0} (confirms : List Confirm) (so_far : ℕ → List Update → List X) (each : ℕ → Update → Option X)
    (on : (n : ℕ) (u : Update) (us : List Update) → so_far n (u ∷ us) ≡ cons_option (each n u) (so_far (n + begun_in confirms n u) us)) where
  put_step : (n begun r i j a d : ℕ) (es : List Entry) (hs : List Hit) (u : Update) (old new all : List X) →
      updates (drop i es) (drop j hs) ≡ u ∷ updates (drop a (drop i es)) (drop d (drop j hs)) → new ≡ old ++ cons_option (each (n + begun) u) [] → r ≡ begun_in confirms (n + begun) u →
      old ++ so_far (n + begun) (updates (drop i es) (drop j hs)) ≡ all → new ++ so_far (n + (begun + r)) (updates (drop (i + a) es) (drop (j + d) hs)) ≡ all
  put_step n begun r i j a d es hs u old new all first put counted before =
      let rest = updates (drop a (drop i es)) (drop d (drop j hs)) in
      let count : n + (begun + r) ≡ n + begun + begun_in confirms (n + begun) u = omega (arith, counted) in
      ap (λ xs. xs ++ so_far (n + (begun + r)) (updates (drop (i + a) es) (drop (j + d) hs))) put
      ∙ ap (λ us. (old ++ cons_option (each (n + begun) u) []) ++ so_far (n + (begun + r)) us) (sym (later es hs i j a d))
      ∙ ap (λ m. (old ++ cons_option (each (n + begun) u) []) ++ so_far m rest) count
      ∙ put_option old (each (n + begun) u) (so_far (n + begun + begun_in confirms (n + begun) u) rest)
      ∙ ap (λ xs. old ++ xs) (sym (on (n + begun) u rest))
      ∙ ap (λ us. old ++ so_far (n + begun) us) (sym first)
      ∙ before

pub kept_step : (confirms : List Confirm) (n begun r i j a d : ℕ) (es : List Entry) (hs : List Hit) (u : Update) (old new all : List Entry) →
    updates (drop i es) (drop j hs) ≡ u ∷ updates (drop a (drop i es)) (drop d (drop j hs)) → new ≡ old ++ cons_option (kept_entry (renewed confirms (n + begun) u)) [] → r ≡ begun_in confirms (n + begun) u →
    old ++ kept_after confirms (n + begun) (updates (drop i es) (drop j hs)) ≡ all → new ++ kept_after confirms (n + (begun + r)) (updates (drop (i + a) es) (drop (j + d) hs)) ≡ all
kept_step confirms = put_step confirms (kept_after confirms) (λ n u. kept_entry (renewed confirms n u)) (λ n u us. refl)

pub told_step : (confirms : List Confirm) (n begun r i j a d : ℕ) (es : List Entry) (hs : List Hit) (u : Update) (old new all : List Event) →
    updates (drop i es) (drop j hs) ≡ u ∷ updates (drop a (drop i es)) (drop d (drop j hs)) → new ≡ old ++ cons_option (told confirms (n + begun) u) [] → r ≡ begun_in confirms (n + begun) u →
    old ++ told_after confirms (n + begun) (updates (drop i es) (drop j hs)) ≡ all → new ++ told_after confirms (n + (begun + r)) (updates (drop (i + a) es) (drop (j + d) hs)) ≡ all
told_step confirms = put_step confirms (told_after confirms) (told confirms) (λ n u us. refl)

pub count_step : (confirms : List Confirm) (n begun r i j a d all : ℕ) (es : List Entry) (hs : List Hit) (u : Update) →
    updates (drop i es) (drop j hs) ≡ u ∷ updates (drop a (drop i es)) (drop d (drop j hs)) → r ≡ begun_in confirms (n + begun) u →
    begun + count_begun confirms (n + begun) (updates (drop i es) (drop j hs)) ≡ all → (begun + r) + count_begun confirms (n + (begun + r)) (updates (drop (i + a) es) (drop (j + d) hs)) ≡ all
count_step confirms n begun r i j a d all es hs u first counted before =
    let rest = updates (drop a (drop i es)) (drop d (drop j hs)) in
    let one = begun_in confirms (n + begun) u in
    let count : n + (begun + r) ≡ n + begun + one = omega (arith, counted) in
    ap (λ us. (begun + r) + count_begun confirms (n + (begun + r)) us) (sym (later es hs i j a d))
    ∙ ap (λ m. (begun + r) + count_begun confirms m rest) count
    ∙ regrouped begun r one (count_begun confirms (n + begun + one) rest) counted
    ∙ ap (λ us. begun + count_begun confirms (n + begun) us) (sym first)
    ∙ before
