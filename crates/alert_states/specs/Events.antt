-- The events of a cycle, and the numbers of alerts (this project's profile). Cycles are listed the newest first.
use Rattle.std.specs.Prelude.{ℕ, ◌+◌, ◌%◌, Bool, true, false, List, [], ◌∷◌, length, filter, count_by, Option, Some, None, option_map, if◌then◌else◌}
use Rattle.std.specs.List.{filter_map}
use Rattle.std.specs.Ordering.{is_lt}
use Rattle.site_types.specs.declared.site.Confirm.{Confirm}
use Rattle.alert_states.specs.declared.event.Status.{Status}
use Rattle.alert_states.specs.declared.event.Status.TheVariants.{First, Continuing, Ended}
use Rattle.alert_states.specs.declared.event.Subject.{Subject}
use Rattle.alert_states.specs.declared.event.Event.{Event}
use Rattle.alert_states.specs.declared.event.Hit.{Hit}
use Rattle.alert_states.specs.declared.event.HitData.{HitData}
use Rattle.alert_states.specs.declared.event.TheConstants.{ALERT_NUMBERS}
use Rattle.alert_states.specs.States.{status}
use Rattle.alert_states.specs.Subjects.{confirm_of, hit_in, marks, subject_cmp, subjects}

-- how a subject's alert stands at the newest cycle
abbrev pub status_at : List Confirm → List (List Hit) → Subject → Option Status
status_at confirms past s = status (confirm_of confirms s.net) (marks past s)

-- an alert begins
abbrev pub is_first : Option Status → Bool
is_first None = false
is_first (Some First) = true
is_first (Some Continuing) = false
is_first (Some Ended) = false

-- the subjects whose alert begins at the newest cycle, in order
abbrev pub firsts : List Confirm → List (List Hit) → List Subject
firsts confirms past = filter (λ s. is_first (status_at confirms past s)) (subjects past)

-- how many alerts began so far
abbrev pub count_firsts : List Confirm → List (List Hit) → ℕ
count_firsts confirms [] = 0
count_firsts confirms (hits ∷ before) = count_firsts confirms before + length (firsts confirms (hits ∷ before))

-- how many of some subjects stand below one
abbrev pub count_below : Subject → List Subject → ℕ
count_below s others = count_by (λ other. is_lt (subject_cmp other s)) others

-- how many alerts began before a subject's last alert: in earlier cycles, and in the same cycle before it
abbrev pub number : List Confirm → List (List Hit) → Subject → ℕ
number confirms [] s = 0
number confirms (hits ∷ before) s =
    if is_first (status_at confirms (hits ∷ before) s) then count_firsts confirms before + count_below s (firsts confirms (hits ∷ before)) else number confirms before s

-- the figures of a subject's hit in the newest cycle
abbrev pub figures_at : List (List Hit) → Subject → Option HitData
figures_at [] s = None
figures_at (hits ∷ before) s = option_map (λ h. h.figures) (hit_in hits s)

-- what the newest cycle says of a subject
abbrev pub event_at : List Confirm → List (List Hit) → Subject → Option Event
event_at confirms past s =
    option_map (λ now. record { subject = s; status = now; id = number confirms past s % ALERT_NUMBERS; hit = figures_at past s }) (status_at confirms past s)

-- the events of the newest cycle, in the order of subjects
abbrev pub events : List Confirm → List (List Hit) → List Event
events confirms past = filter_map (event_at confirms past) (subjects past)
