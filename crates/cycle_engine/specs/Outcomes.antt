-- What a cycle of a table does, whatever cycles an engine keeps (this project's profile).
use Rattle.std.specs.Prelude.{◌≡◌, ℕ, List, ◌∷◌, length, Option}
use Rattle.std.specs.Io.KnownBytes.{Appends}
use Rattle.alert_states.specs.Events.{events, firsts}
use Rattle.alert_states.specs.Held as books
use Rattle.alert_states.specs.declared.event.Event.{Event}
use Rattle.alert_states.specs.declared.event.Hit.{Hit}
use Rattle.outside_io.specs.Bytes.{AppendsPrefix}
use Rattle.track_table.specs.declared.table.Frozen.{Frozen}
use Rattle.cycle_engine.specs.Cycles.{cycle_alerts, done_of}
use Rattle.cycle_engine.specs.Held.{Held, StandsFor}
use Rattle.cycle_engine.specs.declared.engine.CycleDone.{CycleDone}

-- a sink took the alert bytes of the cycle
abbrev pub Writes : Held → Frozen → Option (List ℕ) → Option (List ℕ) → Type 0
Writes held table old new = (tables : List Frozen) → StandsFor held tables → Appends old new (cycle_alerts held.setting (table ∷ tables))

-- a sink took a prefix of them
abbrev pub WritesPrefix : Held → Frozen → Option (List ℕ) → Option (List ℕ) → Type 0
WritesPrefix held table old new = (tables : List Frozen) → StandsFor held tables → AppendsPrefix old new (cycle_alerts held.setting (table ∷ tables))

-- what is kept after it
abbrev pub Keeps : Held → Frozen → Held → Type 0
Keeps old table new = (tables : List Frozen) → StandsFor old tables → StandsFor new (table ∷ tables)

-- what it answers
abbrev pub Answers : Held → Frozen → CycleDone → Type 0
Answers held table done = (tables : List Frozen) → StandsFor held tables → done ≡ done_of held.setting table tables

-- what hits tell of alerts, how many alerts begin with them, and what a book keeps after them
abbrev pub Tells : books.Held → List Hit → List Event → Type 0
Tells book hits told = (past : List (List Hit)) → books.StandsFor book past → told ≡ events book.confirm (hits ∷ past)

abbrev pub Begins : books.Held → List Hit → ℕ → Type 0
Begins book hits begun = (past : List (List Hit)) → books.StandsFor book past → begun ≡ length (firsts book.confirm (hits ∷ past))

abbrev pub Takes : books.Held → List Hit → books.Held → Type 0
Takes old hits new = (past : List (List Hit)) → books.StandsFor old past → books.StandsFor new (hits ∷ past)
