-- How a run ends: why it stops before its work is done, and what each way of ending says of what it found and left (this project's profile).
use Rattle.std.specs.Prelude.{◌≤◌, ℕ, List, Option, ◌≡◌, ◌⊎◌, Bool, true, false, Some, None, Result, Ok, Err, Contains, ⊤, map, MatchResult}
use Rattle.std.specs.Io.KnownBytes.{Appends}
use Rattle.outside_io.specs.Bytes.{AppendsPrefix}
use Rattle.outside_io.specs.Faults.{Rose}
use Rattle.outside_io.specs.Names.{Lacks}
use Rattle.site_fields.specs.declared.fault.SiteFault.{SiteFault}
use Rattle.terrain_file.specs.declared.fault.TerrainFault.{TerrainFault}
use Rattle.replay_cli.specs.Found.{Files, Found, OtherWords, Untold, Lacking, Refused, Given, IsNamed, found, request, IsLacking, IsReading, IsTerrainReading}
use Rattle.replay_cli.specs.declared.texts.Refusal.{Refusal}
use Rattle.replay_cli.specs.declared.texts.FaultText.{FaultText}
use Rattle.replay_cli.specs.declared.texts.FaultText.TheVariants.{Usage, CannotOpen, ReadFailed, WriteFailed, NoMemory}
use Rattle.cycle_workers.specs.Settings.{Setting}
use Rattle.feed_reader.specs.Content.{Content, are_intact, content}
use Rattle.replay_cli.specs.Counts.{report_in}
use Rattle.replay_cli.specs.ReportText.{text_of}
use Rattle.replay_cli.specs.declared.work.Work.{Work}
use Rattle.replay_cli.specs.FaultTexts.{text_of_fault, write_failed_text}
use Rattle.replay_cli.specs.Statuses.{IsReport, Sunk, Takes, stop_status, status_done}
use Rattle.feed_threads.specs.Reference.{reference}
use Rattle.site_fields.specs.declared.fault.SiteFault.TheVariants as refusals
use Rattle.terrain_file.specs.declared.fault.TerrainFault.TheVariants as terrains
use Rattle.replay_cli.specs.declared.texts.Refusal.TheVariants as refusal
use Rattle.outside_io.specs.declared.text.Unread as unread
use Rattle.outside_io.specs.declared.text.Unread.TheVariants as unreads
use Rattle.replay_cli.specs.declared.texts.FaultText.TheVariants as texts
use Rattle.cycle_engine.specs.declared.engine.CycleFault as cycle
use Rattle.cycle_engine.specs.declared.engine.CycleFault.TheVariants as cycles

-- by what the sink had taken and what it has, and its count of faults: a prefix of the text, and the whole
-- where the count hasn't risen; it never falls
pub record Tells (old new : Option (List ℕ)) (before now : ℕ) (text : List ℕ) : Type 0 where
  pub prefix : AppendsPrefix old new text
  pub whole : ¬ Rose before now → Appends old new text
  pub later : before ≤ now

-- the fault of a run that read nothing of a name
abbrev pub fault_of : unread.Unread → List ℕ → FaultText
fault_of unreads.Unopened name = CannotOpen name
fault_of unreads.Broken name = ReadFailed name
fault_of unreads.NoMemory name = NoMemory

-- the fault of a run whose site is refused
abbrev pub site_fault : SiteFault → FaultText
site_fault refusals.NoMemory = NoMemory
site_fault fault = texts.Refused (refusal.Site fault)

-- the fault of a run whose terrain is refused
abbrev pub terrain_fault : TerrainFault → FaultText
terrain_fault terrains.NoMemory = NoMemory
terrain_fault fault = texts.Refused (refusal.Terrain fault)

-- a name wasn't opened or a read failed
abbrev pub is_unread : FaultText → Bool
is_unread Usage = false
is_unread (texts.Refused cause) = false
is_unread (CannotOpen name) = true
is_unread (ReadFailed name) = true
is_unread WriteFailed = false
is_unread NoMemory = false

abbrev pub leaves_unread : {T : Type 0} → Result T FaultText → Bool
leaves_unread (Ok v) = false
leaves_unread (Err e) = is_unread e

-- nothing was read of the name, or what was read is refused for a cause of which this holds
abbrev pub StopsAt : (Refusal → Type 0) → Option Files → ℕ → ℕ → List ℕ → FaultText → Type 0
StopsAt refuses files before after name Usage = ⊥
StopsAt refuses files before after name (texts.Refused cause) = refuses cause
StopsAt refuses files before after name (CannotOpen other) = (other ≡ name) × (Lacks files name ⊎ Rose before after)
StopsAt refuses files before after name (ReadFailed other) = (other ≡ name) × Rose before after
StopsAt refuses files before after name WriteFailed = ⊥
StopsAt refuses files before after name NoMemory = ⊤

-- the site file under the name is refused for this cause
abbrev pub RefusesSite : Option Files → List ℕ → Refusal → Type 0
RefusesSite files name (refusal.Site fault) = IsReading files name (Err fault)
RefusesSite files name (refusal.Terrain fault) = ⊥

-- the terrain file under the name is
abbrev pub RefusesTerrain : Option Files → List ℕ → Refusal → Type 0
RefusesTerrain files name (refusal.Site fault) = ⊥
RefusesTerrain files name (refusal.Terrain fault) = IsTerrainReading files name (Err fault)

-- no site was read of the name
abbrev pub StopsSite : Option Files → ℕ → ℕ → List ℕ → FaultText → Type 0
StopsSite files before after name e = StopsAt (RefusesSite files name) files before after name e

-- no terrain was read of the name that a site gives
abbrev pub StopsTerrain : Option Files → ℕ → ℕ → Option (List ℕ) → FaultText → Type 0
StopsTerrain files before after None e = ⊥
StopsTerrain files before after (Some name) e = StopsAt (RefusesTerrain files name) files before after name e

-- no feed was read of one of the names; nothing of it is refused here
abbrev pub StopsAmong : Option Files → ℕ → ℕ → List (List ℕ) → FaultText → Type 0
StopsAmong files before after names e = (name : List ℕ) × Contains names name × StopsAt (λ cause. ⊥) files before after name e

-- a cycle that wasn't made stops the run for the same cause
abbrev pub GivesFault : cycle.CycleFault → FaultText → Type 0
GivesFault cycles.NoMemory e = e ≡ NoMemory
GivesFault cycles.WriteFault e = e ≡ WriteFailed

-- the text of the report on feeds of these contents, and whether they are intact
pub record IsWork (s : Setting) (feeds : List Content) (work : Work) : Type 0 where
  pub report : work.report.items ≡ text_of (report_in s feeds)
  pub intact : work.is_intact ≡ are_intact feeds

-- a count of faults before the run and after it
pub record Change : Type 0 where
  pub before : ℕ
  pub after : ℕ

abbrev pub change : ℕ → ℕ → Change
change before after = record { before = before; after = after }

-- what a run was given and left: the world's names, the words, the world's count of faults, and `out`
pub record Ran : Type 0 where
  pub files : Option Files
  pub words : List (List ℕ)
  pub world : Change
  pub out : Sunk

abbrev pub ran : Option Files → List (List ℕ) → Change → Sunk → Ran
ran files words world out = record { files = files; words = words; world = world; out = out }

-- what it found
abbrev pub found_by : Ran → Found
found_by r = found r.files r.words

-- the exit status of a run
abbrev pub status_of : Result Work FaultText → ℕ
status_of (Ok work) = status_done work.is_intact
status_of (Err stopped) = stop_status stopped

-- done: this is the feeds' work, and their alert bytes were written
abbrev pub Completes : Found → Sunk → Work → Type 0
Completes OtherWords out work = ⊥
Completes Untold out work = IsReport Untold work.report.items
Completes (Lacking name) out work = ⊥
Completes (Refused refusal) out work = ⊥
Completes (Given s feeds) out work = IsWork s (map content feeds) work × Appends out.before out.after (reference s feeds)

-- a write failed in the middle of this
abbrev pub Breaks : Found → Sunk → Type 0
Breaks OtherWords out = ⊥
Breaks Untold out = (report : List ℕ) × IsReport Untold report
Breaks (Lacking name) out = ⊥
Breaks (Refused refusal) out = ⊥
Breaks (Given s feeds) out = AppendsPrefix out.before out.after (reference s feeds)

-- the site file or the terrain file is refused for this cause
abbrev pub Refuses : Found → Refusal → Type 0
Refuses OtherWords refusal = ⊥
Refuses Untold refusal = ⊤
Refuses (Lacking name) refusal = ⊥
Refuses (Refused first) refusal = refusal ≡ first
Refuses (Given s feeds) refusal = ⊥

-- want of memory: what was written by then is a prefix of this
abbrev pub Halts : Found → Sunk → Type 0
Halts OtherWords out = ⊤
Halts Untold out = ⊤
Halts (Lacking name) out = ⊤
Halts (Refused refusal) out = ⊤
Halts (Given s feeds) out = AppendsPrefix out.before out.after (reference s feeds)

-- the words ask for something that is done here
abbrev pub IsAsked : Found → Type 0
IsAsked OtherWords = ⊥
IsAsked Untold = ⊤
IsAsked (Lacking name) = ⊤
IsAsked (Refused refusal) = ⊤
IsAsked (Given s feeds) = ⊤

-- stopped, by its cause
abbrev pub StopsBy : FaultText → Ran → Type 0
StopsBy Usage r = found_by r ≡ OtherWords
StopsBy (texts.Refused refusal) r = Refuses (found_by r) refusal
StopsBy (CannotOpen name) r = IsAsked (found_by r) × IsNamed r.files (request r.words) name × (IsLacking (found_by r) ⊎ Rose r.world.before r.world.after)
StopsBy (ReadFailed name) r = IsAsked (found_by r) × IsNamed r.files (request r.words) name × Rose r.world.before r.world.after
StopsBy WriteFailed r = Rose r.out.faults_before r.out.faults_after × Breaks (found_by r) r.out
StopsBy NoMemory r = Halts (found_by r) r.out

-- so a run ends
abbrev pub Ends : Ran → Result Work FaultText → Type 0
Ends r result = MatchResult result (λ work. Completes (found_by r) r.out work) (λ stopped. StopsBy stopped r)

-- the report was written
pub record WritesReport (work : Work) (n : ℕ) (report : Sunk) : Type 0 where
  pub status : n ≡ status_done work.is_intact
  pub taken : Appends report.before report.after work.report.items
  pub kept : report.faults_after ≡ report.faults_before

-- a write of the report failed
pub record Misses (work : Work) (n : ℕ) (report : Sunk) : Type 0 where
  pub status : n ≡ 5
  pub rose : Rose report.faults_before report.faults_after
  pub middle : Option (List ℕ)
  pub begun : AppendsPrefix report.before middle work.report.items
  pub told : Takes middle report write_failed_text

-- what is due on `report` was written, and this is the status
abbrev pub Finishes : Result Work FaultText → ℕ → Sunk → Type 0
Finishes (Err stopped) status report = (status ≡ stop_status stopped) × Takes report.before report (text_of_fault stopped)
Finishes (Ok work) status report = WritesReport work status report ⊎ Misses work status report
