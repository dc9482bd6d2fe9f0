-- What is kept and what is hit, side by side in the order of subjects (this project's profile).
use Rattle.std.specs.Prelude.{false, List, [], ◌∷◌, map, Some, None}
use Rattle.std.specs.Ordering.{match_ordering}
use Rattle.alert_states.specs.declared.entry.Entry.{Entry}
use Rattle.alert_states.specs.declared.entry.Update.{Update}
use Rattle.alert_states.specs.declared.event.Hit.{Hit}
use Rattle.alert_states.specs.declared.event.Subject.{Subject}
use Rattle.alert_states.specs.Subjects.{subject_cmp}

-- a subject of which nothing is kept
abbrev pub new_entry : Subject → Entry
new_entry s = record { subject = s; on = false; number = 0; hits = 0 }

abbrev pub unhit : Entry → Update
unhit e = record { before = e; hit = None }

abbrev pub hit_again : Entry → Hit → Update
hit_again e h = record { before = e; hit = Some h }

abbrev pub hit_first : Hit → Update
hit_first h = record { before = new_entry h.subject; hit = Some h }

-- `updates (e ∷ es)`, where `after` is `updates es`
abbrev pub updates_at : Entry → List Entry → (List Hit → List Update) → List Hit → List Update
updates_at e es after [] = unhit e ∷ after []
updates_at e es after (h ∷ hs) =
    match_ordering (subject_cmp e.subject h.subject) (unhit e ∷ after (h ∷ hs)) (hit_again e h ∷ after hs) (hit_first h ∷ updates_at e es after hs)

abbrev pub updates : List Entry → List Hit → List Update
updates [] hits = map hit_first hits
updates (e ∷ es) hits = updates_at e es (updates es) hits
