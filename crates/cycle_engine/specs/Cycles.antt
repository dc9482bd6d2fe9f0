-- What all cycles so far come to: the alert bytes of the plain reference, and what is counted (this project's profile).
-- Tables are listed the newest first, with the table of each cycle.
use Rattle.std.specs.Prelude.{ℕ, ◌+◌, List, [], ◌∷◌, ◌++◌, length, map, unsigned_abs}
use Rattle.alert_states.specs.declared.event.Event.{Event}
use Rattle.alert_states.specs.declared.event.Hit.{Hit}
use Rattle.alert_states.specs.Events.{events, firsts}
use Rattle.cat004_write.specs.Blocks.{pack}
use Rattle.cat004_write.specs.Messages.{message}
use Rattle.cycle_workers.specs.Hits.{count_examined, hits_of}
use Rattle.cycle_workers.specs.Settings.{Setting}
use Rattle.site_types.specs.declared.site.Site.{Site}
use Rattle.track_table.specs.declared.table.Frozen.{Frozen}
use Rattle.cycle_engine.specs.declared.engine.CycleDone.{CycleDone}

-- the hits of each cycle
abbrev pub hits_in : Setting → List Frozen → List (List Hit)
hits_in s tables = map (hits_of s) tables

-- what the newest cycle says of alerts
abbrev pub events_in : Setting → List Frozen → List Event
events_in s tables = events s.site.confirm (hits_in s tables)

-- the message of an event at a table's time
abbrev pub message_in : Site → Frozen → Event → List ℕ
message_in site table event = message event (unsigned_abs table.time) site.sac site.sic

-- the alert bytes of the newest cycle: its messages in blocks
abbrev pub cycle_alerts : Setting → List Frozen → List ℕ
cycle_alerts s [] = []
cycle_alerts s (table ∷ before) = pack (map (message_in s.site table) (events_in s (table ∷ before)))

-- the alert bytes of all cycles, in order
abbrev pub alerts : Setting → List Frozen → List ℕ
alerts s [] = []
alerts s (table ∷ before) = alerts s before ++ cycle_alerts s (table ∷ before)

-- how many alerts begin in the newest cycle
abbrev pub firsts_in : Setting → List Frozen → ℕ
firsts_in s tables = length (firsts s.site.confirm (hits_in s tables))

-- how many messages all cycles give, how many alerts begin in them, and how many pairs are examined
abbrev pub count_messages : Setting → List Frozen → ℕ
count_messages s [] = 0
count_messages s (table ∷ before) = count_messages s before + length (events_in s (table ∷ before))

abbrev pub count_firsts : Setting → List Frozen → ℕ
count_firsts s [] = 0
count_firsts s (table ∷ before) = count_firsts s before + firsts_in s (table ∷ before)

abbrev pub count_all_examined : Site → List Frozen → ℕ
count_all_examined site [] = 0
count_all_examined site (table ∷ before) = count_all_examined site before + count_examined site table

-- what a cycle answers
abbrev pub done_of : Setting → Frozen → List Frozen → CycleDone
done_of s table before = record {
  messages = length (events_in s (table ∷ before));
  firsts = firsts_in s (table ∷ before);
  examined = count_examined s.site table;
}
