-- An event carries the figures of a hit of its cycle.
use Rattle.std.proofs.Common.{ℕ, Bool, true, false, cond, List, [], ◌∷◌, Option, Some, None, option_map}
use Rattle.std.proofs.lemmas.List.Elements.{All-cons, All-head, All-nil, All-tail}
use Rattle.std.specs.Prelude.{◌%◌, All, IfSome}
use Rattle.std.specs.List.{cons_option, filter_map, find}
use Rattle.std.specs.Ordering.{eq_by_cmp}
use Rattle.site_types.specs.declared.site.Confirm.{Confirm}
use Rattle.alert_states.specs.declared.event.Event.{Event}
use Rattle.alert_states.specs.declared.event.Hit.{Hit}
use Rattle.alert_states.specs.declared.event.HitData.{HitData}
use Rattle.alert_states.specs.declared.event.Status.{Status}
use Rattle.alert_states.specs.declared.event.Subject.{Subject}
use Rattle.alert_states.specs.declared.event.TheConstants.{ALERT_NUMBERS}
use Rattle.alert_states.specs.Events.{event_at, events, figures_at, number, status_at}
use Rattle.alert_states.specs.Figures.{AreInRoom, FitsMessage, FitsOctets}
use Rattle.alert_states.specs.Subjects.{hit_in, subject_cmp, subjects}

found_at : {X : Type 0} (P : X → Type 0) (x : X) (rest : Option X) (b : Bool) → P x → IfSome rest P → IfSome (cond b (Some x) rest) P
found_at P x rest true here there = here
found_at P x rest false here there = there

-- what holds of each element holds of the one that is found
IfSome-find : {X : Type 0} (P : X → Type 0) (test : X → Bool) (xs : List X) → All P xs → IfSome (find test xs) P
IfSome-find P test [] each = tt
IfSome-find P test (x ∷ xs) each =
    found_at P x (find test xs) (test x) (All-head P x xs each) (IfSome-find P test xs (All-tail P x xs each))

one_more : {Y : Type 0} (P : Y → Type 0) (o : Option Y) (ys : List Y) → IfSome o P → All P ys → All P (cons_option o ys)
one_more P None ys here rest = rest
one_more P (Some y) ys here rest = All-cons P y ys here rest

-- what holds of each answer holds of all that are kept
All-filter_map : {X Y : Type 0} (P : Y → Type 0) (f : X → Option Y) → ((x : X) → IfSome (f x) P) → (xs : List X) → All P (filter_map f xs)
All-filter_map P f each [] = All-nil P
All-filter_map P f each (x ∷ xs) = one_more P (f x) (filter_map f xs) (each x) (All-filter_map P f each xs)

figures_fit : (o : Option Hit) → IfSome o (λ h. FitsOctets h.figures) → IfSome (option_map (λ h. h.figures) o) FitsOctets
figures_fit None fits = tt
figures_fit (Some h) fits = fits

told_fits : (s : Subject) (id : ℕ) (hit : Option HitData) (o : Option Status) → IfSome hit FitsOctets → IfSome (option_map (λ now. let x : Event = record { subject = s; status = now; id = id; hit = hit } in x) o) FitsMessage
told_fits s id hit None fits = tt
told_fits s id hit (Some now) fits = fits

pub events_carry_hits : (confirms : List Confirm) (past : List (List Hit)) (hits : List Hit) → AreInRoom hits → All FitsMessage (events confirms (hits ∷ past))
events_carry_hits confirms past hits fit =
    let now : List (List Hit) = hits ∷ past in
    let of : (s : Subject) → IfSome (figures_at now s) FitsOctets =
    λ s. figures_fit (hit_in hits s) (IfSome-find (λ h. FitsOctets h.figures) (λ h. eq_by_cmp subject_cmp s h.subject) hits fit) in
    All-filter_map FitsMessage (event_at confirms now) (λ s. told_fits s (number confirms now s % ALERT_NUMBERS) (figures_at now s) (status_at confirms now s) (of s)) (subjects now)
