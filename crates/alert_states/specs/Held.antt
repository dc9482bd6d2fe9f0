-- What a book keeps of all cycles so far (this project's profile).
use Rattle.std.specs.Prelude.{◌≡◌, ℕ, ◌%◌, List, map, take, is_some, if◌then◌else◌}
use Rattle.std.specs.Simd.Lanes.{mask_l}
use Rattle.site_types.specs.declared.site.Confirm.{Confirm}
use Rattle.alert_states.specs.declared.entry.Entry.{Entry}
use Rattle.alert_states.specs.declared.event.Hit.{Hit}
use Rattle.alert_states.specs.declared.event.Subject.{Subject}
use Rattle.alert_states.specs.declared.event.TheConstants.{ALERT_NUMBERS}
use Rattle.alert_states.specs.Events.{count_firsts, number}
use Rattle.alert_states.specs.States.{is_on, live_subjects, window}
use Rattle.alert_states.specs.Subjects.{confirm_of, marks}

-- the nets' settings, how many alerts began modulo the numbers that there are, and an entry for each live subject in order
pub record Held : Type 0 where
  pub confirm : List Confirm
  pub firsts : ℕ
  pub entries : List Entry

-- what is kept of a subject: bit i of its hits is set where it was hit i cycles ago
abbrev pub entry_at : List Confirm → List (List Hit) → Subject → Entry
entry_at confirms past s =
    let c = confirm_of confirms s.net in
    let on = is_on c (marks past s) in
    record { subject = s; on = on; number = if on then number confirms past s % ALERT_NUMBERS else 0; hits = mask_l (map is_some (take (window c) (marks past s))) }

-- the cycles, the newest first, of which a book keeps what it holds
pub record StandsFor (held : Held) (past : List (List Hit)) : Type 0 where
  pub entries : held.entries ≡ map (entry_at held.confirm past) (live_subjects held.confirm past)
  pub firsts : held.firsts ≡ count_firsts held.confirm past % ALERT_NUMBERS
