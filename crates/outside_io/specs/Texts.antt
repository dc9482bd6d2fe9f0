-- What is read of a source as a text of at most so many octets, where its bytes are told (this project's profile).
use Rattle.std.specs.Prelude.{◌≡◌, ℕ, ◌≤◌, List, length, take, Option, IfSome}
use Rattle.std.specs.Io.KnownBytes.{Consumes}
use Rattle.outside_io.specs.declared.world.OpenFault as fault
use Rattle.outside_io.specs.declared.world.OpenFault.TheVariants as faults
use Rattle.outside_io.specs.declared.text.Unread as unread
use Rattle.outside_io.specs.declared.text.Unread.TheVariants as unreads

-- this is what the source has left, or as much of it as is read
abbrev pub ReadsText : Option (List ℕ) → ℕ → List ℕ → Type 0
ReadsText left most text = IfSome left (λ bytes. text ≡ take most bytes)

-- at most so many bytes were taken of the source
abbrev pub TakesAtMost : ℕ → Option (List ℕ) → Option (List ℕ) → Type 0
TakesAtMost most old new = (taken : List ℕ) × Consumes old new taken × (length taken ≤ most)

-- a name that wasn't opened wasn't read, for the same cause
abbrev pub GivesUnread : fault.OpenFault → unread.Unread → Type 0
GivesUnread faults.NoSuch e = e ≡ unreads.Unopened
GivesUnread faults.Failed e = e ≡ unreads.Unopened
GivesUnread faults.NoMemory e = e ≡ unreads.NoMemory
