-- When a subject's alert is on (this project's profile). Cycles are listed the newest first.
use Rattle.std.specs.Prelude.{◌≡◌, ℕ, ◌+◌, max, Bool, true, false, ◌&&◌, ◌||◌, List, [], ◌∷◌, take, filter, count_by, nat_le, is_some, Option, Some, None}
use Rattle.std.specs.List.{list_any}
use Rattle.site_types.specs.declared.site.Confirm.{Confirm}
use Rattle.alert_states.specs.declared.event.Status.{Status}
use Rattle.alert_states.specs.declared.event.Status.TheVariants.{First, Continuing, Ended}
use Rattle.alert_states.specs.declared.event.Subject.{Subject}
use Rattle.alert_states.specs.declared.event.Hit.{Hit}
use Rattle.alert_states.specs.Subjects.{confirm_of, marks, subjects}

-- the newest cycle's hit begins an alert: it is urgent, or the m-th at least in the last n cycles
abbrev pub begins : Confirm → List (Option Hit) → Bool
begins c [] = false
begins c (None ∷ before) = false
begins c (Some hit ∷ before) = hit.urgent || nat_le c.m (count_by is_some (take c.n (Some hit ∷ before)))

-- an alert that is on stays on: a hit is at most `hold` cycles ago
abbrev pub holds : Confirm → List (Option Hit) → Bool
holds c marks = list_any is_some (take (c.hold + 1) marks)

-- an alert is on at the newest cycle
abbrev pub is_on : Confirm → List (Option Hit) → Bool
is_on c [] = false
is_on c (now ∷ before) = begins c (now ∷ before) || (is_on c before && holds c (now ∷ before))

-- how an alert stands that was on or off before, and is on or off now
abbrev pub status_of : Bool → Bool → Option Status
status_of false false = None
status_of false true = Some First
status_of true true = Some Continuing
status_of true false = Some Ended

-- how an alert stands at the newest cycle
abbrev pub status : Confirm → List (Option Hit) → Option Status
status c [] = None
status c (now ∷ before) = status_of (is_on c before) (is_on c (now ∷ before))

-- the cycles that say whether an alert begins or is held
abbrev pub window : Confirm → ℕ
window c = max c.n (c.hold + 1)

-- a subject that was hit in them
abbrev pub is_live : Confirm → List (Option Hit) → Bool
is_live c marks = list_any is_some (take (window c) marks)

abbrev pub live_subjects : List Confirm → List (List Hit) → List Subject
live_subjects confirms past = filter (λ s. is_live (confirm_of confirms s.net) (marks past s)) (subjects past)

-- no subject was hit in the window of its net
abbrev pub IsQuiet : List Confirm → List (List Hit) → Type 0
IsQuiet confirms past = live_subjects confirms past ≡ []
