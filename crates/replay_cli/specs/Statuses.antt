-- What each exit status says of what the run found, and what the two sinks took (this project's profile).
use Rattle.std.specs.Prelude.{◌≡◌, ◌≢◌, ◌⊎◌, ℕ, ◌+◌, true, false, List, map, Option, Bool, if◌then◌else◌}
use Rattle.std.specs.Io.KnownBytes.{Appends}
use Rattle.outside_io.specs.Bytes.{AppendsPrefix}
use Rattle.outside_io.specs.Faults.{Rose}
use Rattle.cycle_workers.specs.Settings.{Setting}
use Rattle.feed_reader.specs.Content.{content, feeds_are_intact}
use Rattle.replay_cli.specs.FaultTexts.{cannot_open, out_of_memory_text, read_failed, refusal_text, write_failed_text}
use Rattle.command_words.specs.Usage.{usage_text}
use Rattle.replay_cli.specs.Found.{Files, Found, OtherWords, Untold, Lacking, Refused, Given, IsLacking, IsNamed, found, request}
use Rattle.feed_threads.specs.Reference.{examined, reference}
use Rattle.replay_cli.specs.Counts.{report_of}
use Rattle.replay_cli.specs.ReportText.{text_of}
use Rattle.replay_cli.specs.declared.texts.Refusal.{Refusal}
use Rattle.feed_reader.specs.declared.counts.Report.{Report}
use Rattle.replay_cli.specs.declared.texts.FaultText.{FaultText}
use Rattle.replay_cli.specs.declared.texts.FaultText.TheVariants.{Usage, CannotOpen, ReadFailed, WriteFailed, NoMemory}
use Rattle.replay_cli.specs.declared.texts.FaultText.TheVariants as texts

-- the exit status of a run that stopped so
abbrev pub stop_status : FaultText → ℕ
stop_status Usage = 2
stop_status (texts.Refused cause) = 3
stop_status (CannotOpen name) = 4
stop_status (ReadFailed name) = 4
stop_status WriteFailed = 5
stop_status NoMemory = 6

-- the exit statuses
abbrev pub status_done : Bool → ℕ
status_done is_intact = if is_intact then 0 else 7

-- the work was done: nothing of the feeds is refused and each ends behind a whole block, or not
abbrev pub IsDone : ℕ → Type 0
IsDone status = (status ≡ 0) ⊎ (status ≡ 7)

-- what is to be refused is refused, unless a read or want of memory came before
abbrev pub IsRefused : ℕ → Type 0
IsRefused status = (status ≡ 3) ⊎ (status ≡ 4) ⊎ (status ≡ 6)

-- what a status says of feeds under an accepted site and an accepted terrain: at 0 they are intact, and at 7 they aren't
pub record JudgesFeeds (feeds : List (List ℕ)) (status : ℕ) : Type 0 where
  pub words : status ≢ 2
  pub accepted : status ≢ 3
  pub intact : status ≡ 0 → feeds_are_intact feeds ≡ true
  pub damaged : status ≡ 7 → feeds_are_intact feeds ≡ false

-- which statuses may come for what was found
abbrev pub Judges : Found → ℕ → Type 0
Judges OtherWords status = (status ≡ 2) ⊎ (status ≡ 6)
Judges Untold status = status ≢ 2
Judges (Lacking name) status = (status ≡ 4) ⊎ (status ≡ 6)
Judges (Refused refusal) status = IsRefused status
Judges (Given s feeds) status = JudgesFeeds feeds status

-- a sink before a run and after it: what it took, and its count of faults
pub record Sunk : Type 0 where
  pub before : Option (List ℕ)
  pub after : Option (List ℕ)
  pub faults_before : ℕ
  pub faults_after : ℕ

abbrev pub sunk : Option (List ℕ) → Option (List ℕ) → ℕ → ℕ → Sunk
sunk before after faults_before faults_after = record { before = before; after = after; faults_before = faults_before; faults_after = faults_after }

-- the alert bytes were written: all of them where the work was done, or where the sink didn't fail though a write did,
-- and a prefix of them at any other status
pub record WritesAlerts (status : ℕ) (out : Sunk) (alerts : List ℕ) : Type 0 where
  pub prefix : AppendsPrefix out.before out.after alerts
  pub done : IsDone status → Appends out.before out.after alerts
  pub unbroken : status ≡ 5 → (Rose out.faults_before out.faults_after → ⊥) → Appends out.before out.after alerts

-- they are the reference's
abbrev pub Serves : ℕ → Sunk → Setting → List (List ℕ) → Type 0
Serves status out s feeds = WritesAlerts status out (reference s feeds)

-- as many steps were taken as the reference examines pairs
abbrev pub CountsPairs : ℕ → ℕ → Setting → List (List ℕ) → Type 0
CountsPairs before after s feeds = after ≡ before + examined s.site (map content feeds)

-- the words, the site, the terrain and the feeds were accepted, and cycles are made
abbrev pub HasBegun : Found → Type 0
HasBegun OtherWords = ⊥
HasBegun Untold = Unit {0}
HasBegun (Lacking name) = ⊥
HasBegun (Refused refusal) = ⊥
HasBegun (Given s feeds) = Unit {0}

-- alert bytes may have been written
abbrev pub MayWrite : Found → ℕ → Type 0
MayWrite found status = IsDone status ⊎ (status ≡ 5) ⊎ ((status ≡ 6) × HasBegun found)

-- ---- the text that is due on `report`

-- the report of the feeds, where they are told
abbrev pub IsReport : Found → List ℕ → Type 0
IsReport (Given s feeds) text = text ≡ text_of (report_of s feeds)
IsReport OtherWords text = ⊥
IsReport Untold text = (report : Report) × (text ≡ text_of report)
IsReport (Lacking name) text = ⊥
IsReport (Refused refusal) text = ⊥

-- why the site or the terrain is refused
abbrev pub IsRefusal : Found → List ℕ → Type 0
IsRefusal (Given s feeds) text = ⊥
IsRefusal OtherWords text = ⊥
IsRefusal Untold text = (refusal : Refusal) × (text ≡ refusal_text refusal)
IsRefusal (Lacking name) text = ⊥
IsRefusal (Refused refusal) text = text ≡ refusal_text refusal

-- which of the names wasn't opened or read
abbrev pub IsUnread : Option Files → List (List ℕ) → List ℕ → Type 0
IsUnread files words text = (name : List ℕ) × IsNamed files (request words) name × ((text ≡ cannot_open name) ⊎ (text ≡ read_failed name))

-- the text that is due at a status
pub record IsDue (files : Option Files) (words : List (List ℕ)) (status : ℕ) (text : List ℕ) : Type 0 where
  pub done : IsDone status → IsReport (found files words) text
  pub usage : status ≡ 2 → text ≡ usage_text
  pub refused : status ≡ 3 → IsRefusal (found files words) text
  pub unread : status ≡ 4 → IsUnread files words text
  pub unwritten : status ≡ 5 → text ≡ write_failed_text
  pub memory : status ≡ 6 → text ≡ out_of_memory_text

-- a text was taken from there on: all of it, or a prefix where the count rose
pub record Takes (from : Option (List ℕ)) (sink : Sunk) (text : List ℕ) : Type 0 where
  pub prefix : AppendsPrefix from sink.after text
  pub whole : (Rose sink.faults_before sink.faults_after → ⊥) → Appends from sink.after text

-- the text due was taken; where a write failed, a prefix of the report may stand before it
pub record Reports (files : Option Files) (words : List (List ℕ)) (status : ℕ) (sink : Sunk) : Type 0 where
  pub text : List ℕ
  pub due : IsDue files words status text
  pub middle : Option (List ℕ)
  pub alone : status ≢ 5 → middle ≡ sink.before
  pub late : status ≡ 5 → (report : List ℕ) × IsReport (found files words) report × AppendsPrefix sink.before middle report
  pub taken : Takes middle sink text

-- why a name has this text: it doesn't open where one is lacking or the world failed, and a read of it failed where the world failed
abbrev pub IsCauseOf : Found → ℕ → ℕ → List ℕ → List ℕ → Type 0
IsCauseOf found before after name text = ((text ≡ cannot_open name) × (IsLacking found ⊎ Rose before after)) ⊎ ((text ≡ read_failed name) × Rose before after)

-- the text of a name that wasn't opened or read was taken, and it has its cause
pub record TellsUnread (files : Option Files) (words : List (List ℕ)) (before after : ℕ) (report : Sunk) : Type 0 where
  pub name : List ℕ
  pub named : IsNamed files (request words) name
  pub text : List ℕ
  pub cause : IsCauseOf (found files words) before after name text
  pub taken : Takes report.before report text

-- the report was taken, whole and alone
abbrev pub ReportsWhole : Found → Option (List ℕ) → Option (List ℕ) → Type 0
ReportsWhole found old new = (text : List ℕ) × IsReport found text × Appends old new text
