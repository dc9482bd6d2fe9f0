-- What a cycle makes of the hits that are kept of a subject as bits (this project's profile).
use Rattle.std.specs.Prelude.{ℕ, ◌+◌, ◌*◌, ◌%◌, ◌^◌, Bool, true, false, not, ◌&&◌, ◌||◌, ◌==◌, List, [], ◌∷◌, nat_le, count_ones, is_some, Option, Some, None, option_map, if◌then◌else◌}
use Rattle.std.specs.List.{cons_option}
use Rattle.site_types.specs.declared.site.Confirm.{Confirm}
use Rattle.alert_states.specs.declared.entry.Entry.{Entry}
use Rattle.alert_states.specs.declared.entry.Update.{Update}
use Rattle.alert_states.specs.declared.event.Event.{Event}
use Rattle.alert_states.specs.declared.event.Hit.{Hit}
use Rattle.alert_states.specs.declared.event.TheConstants.{ALERT_NUMBERS}
use Rattle.alert_states.specs.Events.{is_first}
use Rattle.alert_states.specs.States.{status_of, window}
use Rattle.alert_states.specs.Subjects.{confirm_of}

-- each bit moves up by one, and the lowest tells of this cycle
abbrev pub hits_after : Confirm → ℕ → Option Hit → ℕ
hits_after c hits hit = (hits * 2 + (if is_some hit then 1 else 0)) % 2 ^ window c

-- the hit begins an alert, or would where one is on
abbrev pub begins_by : Confirm → ℕ → Option Hit → Bool
begins_by c hits None = false
begins_by c hits (Some hit) = hit.urgent || nat_le c.m (count_ones (hits % 2 ^ c.n))

abbrev pub on_after : Confirm → Bool → ℕ → Option Hit → Bool
on_after c before hits hit = begins_by c hits hit || (before && not (hits % 2 ^ (c.hold + 1) == 0))

-- an alert keeps its number, one that begins takes the next
abbrev pub number_after : Bool → Bool → ℕ → ℕ → ℕ
number_after before false number next = 0
number_after true true number next = number
number_after false true number next = next

abbrev pub entry_after : Confirm → ℕ → Update → Entry
entry_after c next u =
    let hits = hits_after c u.before.hits u.hit in
    let on = on_after c u.before.on hits u.hit in
    record { subject = u.before.subject; on = on; number = number_after u.before.on on u.before.number next; hits = hits }

abbrev pub event_after : ℕ → Update → Bool → Option Event
event_after next u on =
    option_map (λ status. record { subject = u.before.subject; status = status; id = if u.before.on then u.before.number else next; hit = option_map (λ h. h.figures) u.hit }) (status_of u.before.on on)

-- the number after so many alerts
abbrev pub number_of : ℕ → ℕ
number_of begun = begun % ALERT_NUMBERS

-- what is kept of the subject, if it is live
abbrev pub kept_entry : Entry → Option Entry
kept_entry e = if e.hits == 0 then None else Some e

-- an update, after so many alerts
abbrev pub renewed : List Confirm → ℕ → Update → Entry
renewed confirms begun u = entry_after (confirm_of confirms u.before.subject.net) (number_of begun) u

abbrev pub told : List Confirm → ℕ → Update → Option Event
told confirms begun u = event_after (number_of begun) u (renewed confirms begun u).on

-- 1 where an alert begins
abbrev pub begun_by : Bool → Bool → ℕ
begun_by before now = if is_first (status_of before now) then 1 else 0

abbrev pub begun_in : List Confirm → ℕ → Update → ℕ
begun_in confirms begun u = begun_by u.before.on (renewed confirms begun u).on

-- the updates of a cycle one after the other, after so many alerts: what is kept, what is told, and how many alerts begin
abbrev pub kept_after : List Confirm → ℕ → List Update → List Entry
kept_after confirms begun [] = []
kept_after confirms begun (u ∷ us) = cons_option (kept_entry (renewed confirms begun u)) (kept_after confirms (begun + begun_in confirms begun u) us)

abbrev pub told_after : List Confirm → ℕ → List Update → List Event
told_after confirms begun [] = []
told_after confirms begun (u ∷ us) = cons_option (told confirms begun u) (told_after confirms (begun + begun_in confirms begun u) us)

abbrev pub count_begun : List Confirm → ℕ → List Update → ℕ
count_begun confirms begun [] = 0
count_begun confirms begun (u ∷ us) = begun_in confirms begun u + count_begun confirms (begun + begun_in confirms begun u) us
