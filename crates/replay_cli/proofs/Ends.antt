-- What the top call says, from how the run ended and from what was written of it.
use Rattle.std.proofs.Common.{◌≡◌, ◌≢◌, ◌⊎◌, ◌∙◌, inl, inr, refl, sym, ap, ℕ, Bool, true, false, List, length, Option, None, Some, Result, Ok, Err, rules}
use Rattle.std.proofs.Math.Seq.{take-length}
use Rattle.std.proofs.lemmas.List.{append-nil}
use Rattle.std.specs.Io.KnownBytes.{Appends}
use Rattle.outside_io.specs.Bytes.{AppendsPrefix, AppendsWhole}
use Rattle.outside_io.specs.Faults.{Rose}
use Rattle.feed_reader.specs.Content.{feeds_are_intact}
use Rattle.replay_cli.specs.Counts.{report_of}
use Rattle.replay_cli.specs.Endings.{Ran, Ends, Finishes, Completes, Breaks, Halts, Refuses, IsAsked, StopsBy, found_by, status_of}
use Rattle.replay_cli.specs.Statuses.{status_done, IsDone, IsDue, IsReport, IsRefusal, Judges, JudgesFeeds, MayWrite, Reports, ReportsWhole, Serves, Sunk, Takes, TellsUnread, stop_status}
use Rattle.replay_cli.specs.FaultTexts.{cannot_open, read_failed, refusal_text, text_of_fault, write_failed_text}
use Rattle.replay_cli.specs.Found.{Found, OtherWords, Untold, Lacking, Refused, Given, IfGiven, IsLacking}
use Rattle.feed_threads.specs.Reference.{reference}
use Rattle.replay_cli.specs.ReportText.{text_of}
use Rattle.replay_cli.specs.declared.texts.FaultText.{FaultText}
use Rattle.replay_cli.specs.declared.texts.Refusal.{Refusal}
use Rattle.replay_cli.specs.declared.texts.FaultText.TheVariants as texts
use Rattle.replay_cli.specs.declared.work.Work.{Work}

abbrev Ending : Type 0
Ending = Result Work FaultText

-- ---- bytes that a sink took

pub whole_is_prefix : (old new : Option (List ℕ)) (bytes : List ℕ) → Appends old new bytes → AppendsPrefix old new bytes
whole_is_prefix old new bytes all = (length bytes, rw take-length all)

pub nothing_is_prefix : (old new : Option (List ℕ)) (bytes : List ℕ) → new ≡ old → AppendsPrefix old new bytes
nothing_is_prefix None new bytes same = (0, tt)
nothing_is_prefix (Some xs) new bytes same = (0, rw same (sym (append-nil xs)))

pub front_of : {E : Type 0} (old new : Option (List ℕ)) (result : Result (Unit {0}) E) (bytes : List ℕ) → AppendsWhole old new result bytes → AppendsPrefix old new bytes
front_of old new (Ok done) bytes all = whole_is_prefix old new bytes all
front_of old new (Err failed) bytes front = front

-- ---- statuses

pub done_statuses : (b : Bool) → IsDone (status_done b)
done_statuses true = inl refl
done_statuses false = inr refl

-- the status is that of the ending, but where the report of what was done can't be written
pub kept_or_missed : (e : Ending) (n : ℕ) (report : Sunk) → Finishes e n report → (n ≡ status_of e) ⊎ ((n ≡ 5) × IsDone (status_of e))
kept_or_missed (Err stopped) n report finishes = inl finishes.0
kept_or_missed (Ok work) n report (inl tells) = inl tells.status
kept_or_missed (Ok work) n report (inr misses) = inr (misses.status, done_statuses work.is_intact)

stop_statuses : (e : FaultText) → (stop_status e ≡ 2) ⊎ (stop_status e ≡ 3) ⊎ (stop_status e ≡ 4) ⊎ (stop_status e ≡ 5) ⊎ (stop_status e ≡ 6)
stop_statuses texts.Usage = search rules
stop_statuses (texts.Refused refusal) = search rules
stop_statuses (texts.CannotOpen name) = search rules
stop_statuses (texts.ReadFailed name) = search rules
stop_statuses texts.WriteFailed = search rules
stop_statuses texts.NoMemory = search rules

pub other_than : (k : ℕ) (e : Ending) (n : ℕ) (report : Sunk) → k ≢ 0 → k ≢ 7 → Finishes e n report → n ≢ k → status_of e ≢ k
other_than k e n report not_intact not_damaged finishes other is = elim (kept_or_missed e n report finishes) [
  | inl same ↦ other (same ∙ is)
  | inr missed ↦ elim missed.1 [ inl zero ↦ not_intact (sym is ∙ zero) | inr seven ↦ not_damaged (sym is ∙ seven) ]
]

-- where nothing was to be written, the work wasn't done
pub not_done : (k : ℕ) (e : Ending) (n : ℕ) (report : Sunk) → IsDone k → Finishes e n report → n ≢ 0 → n ≢ 5 → n ≢ 7 → status_of e ≢ k
not_done k e n report done finishes not_intact not_cut not_damaged is = elim (kept_or_missed e n report finishes) [
  | inl same ↦ elim done [ inl zero ↦ not_intact (same ∙ is ∙ zero) | inr seven ↦ not_damaged (same ∙ is ∙ seven) ]
  | inr missed ↦ not_cut missed.0
]

pub statuses_of : (e : Ending) (n : ℕ) (report : Sunk) → Finishes e n report → (n ≡ 0) ⊎ (n ≡ 2) ⊎ (n ≡ 3) ⊎ (n ≡ 4) ⊎ (n ≡ 5) ⊎ (n ≡ 6) ⊎ (n ≡ 7)
statuses_of (Ok work) n report (inl tells) = elim (done_statuses work.is_intact) [ inl zero ↦ (let is : n ≡ 0 = tells.status ∙ zero in search rules) | inr seven ↦ (let is : n ≡ 7 = tells.status ∙ seven in search rules) ]
statuses_of (Ok work) n report (inr misses) = (let is : n ≡ 5 = misses.status in search rules)
statuses_of (Err stopped) n report finishes = rw finishes.0 (let one = stop_statuses stopped in search rules)

-- ---- what was found judges the status

judge_feeds : (feeds : List (List ℕ)) (b : Bool) (n : ℕ) → b ≡ feeds_are_intact feeds → n ≡ status_done b → JudgesFeeds feeds n
judge_feeds feeds true n intact is = record { words = λ e. cc; accepted = λ e. cc; intact = λ e. sym intact; damaged = λ e. absurd (cc) }
judge_feeds feeds false n intact is = record { words = λ e. cc; accepted = λ e. cc; intact = λ e. absurd (cc); damaged = λ e. sym intact }

-- at these statuses nothing is said of the feeds
judge_none : (feeds : List (List ℕ)) (n : ℕ) → n ≢ 2 → n ≢ 3 → n ≢ 0 → n ≢ 7 → JudgesFeeds feeds n
judge_none feeds n words accepted not_intact not_damaged = record { words = words; accepted = accepted; intact = λ e. absurd (not_intact e); damaged = λ e. absurd (not_damaged e) }

judge_done : (f : Found) (out : Sunk) (work : Work) (n : ℕ) → Completes f out work → n ≡ status_done work.is_intact → Judges f n
judge_done OtherWords out work n completes is = absurd completes
judge_done Untold out work n completes is = λ two. elim (done_statuses work.is_intact) [ inl zero ↦ absurd (cc) | inr seven ↦ absurd (cc) ]
judge_done (Lacking name) out work n completes is = absurd completes
judge_done (Refused refusal) out work n completes is = absurd completes
judge_done (Given s feeds) out work n completes is = judge_feeds feeds work.is_intact n completes.0.intact is

judge_missed : (f : Found) (out : Sunk) (work : Work) → Completes f out work → Judges f 5
judge_missed OtherWords out work completes = absurd completes
judge_missed Untold out work completes = λ two. cc
judge_missed (Lacking name) out work completes = absurd completes
judge_missed (Refused refusal) out work completes = absurd completes
judge_missed (Given s feeds) out work completes = judge_none feeds 5 (λ e. cc) (λ e. cc) (λ e. cc) (λ e. cc)

judge_usage : (f : Found) → f ≡ OtherWords → Judges f 2
judge_usage f is = rw is (inl refl)

judge_refused : (f : Found) (refusal : Refusal) → Refuses f refusal → Judges f 3
judge_refused OtherWords refusal refuses = absurd refuses
judge_refused Untold refusal refuses = λ two. cc
judge_refused (Lacking name) refusal refuses = absurd refuses
judge_refused (Refused first) refusal refuses = inl refl
judge_refused (Given s feeds) refusal refuses = absurd refuses

judge_unread : (f : Found) → IsAsked f → Judges f 4
judge_unread OtherWords asked = absurd asked
judge_unread Untold asked = λ two. cc
judge_unread (Lacking name) asked = inl refl
judge_unread (Refused first) asked = inr (inl refl)
judge_unread (Given s feeds) asked = judge_none feeds 4 (λ e. cc) (λ e. cc) (λ e. cc) (λ e. cc)

judge_broken : (f : Found) (out : Sunk) → Breaks f out → Judges f 5
judge_broken OtherWords out breaks = absurd breaks
judge_broken Untold out breaks = λ two. cc
judge_broken (Lacking name) out breaks = absurd breaks
judge_broken (Refused first) out breaks = absurd breaks
judge_broken (Given s feeds) out breaks = judge_none feeds 5 (λ e. cc) (λ e. cc) (λ e. cc) (λ e. cc)

judge_memory : (f : Found) → Judges f 6
judge_memory OtherWords = inr refl
judge_memory Untold = λ two. cc
judge_memory (Lacking name) = inr refl
judge_memory (Refused first) = inr (inr refl)
judge_memory (Given s feeds) = judge_none feeds 6 (λ e. cc) (λ e. cc) (λ e. cc) (λ e. cc)

judged_by : (r : Ran) (e : FaultText) → StopsBy e r → Judges (found_by r) (stop_status e)
judged_by r texts.Usage stops = judge_usage (found_by r) stops
judged_by r (texts.Refused refusal) stops = judge_refused (found_by r) refusal stops
judged_by r (texts.CannotOpen name) stops = judge_unread (found_by r) stops.0
judged_by r (texts.ReadFailed name) stops = judge_unread (found_by r) stops.0
judged_by r texts.WriteFailed stops = judge_broken (found_by r) r.out stops.1
judged_by r texts.NoMemory stops = judge_memory (found_by r)

pub judged_of : (r : Ran) (e : Ending) (n : ℕ) (report : Sunk) → Ends r e → Finishes e n report → Judges (found_by r) n
judged_of r (Ok work) n report ends (inl tells) = judge_done (found_by r) r.out work n ends tells.status
judged_of r (Ok work) n report ends (inr misses) = rw misses.status (judge_missed (found_by r) r.out work ends)
judged_of r (Err stopped) n report ends finishes = rw finishes.0 (judged_by r stopped ends)

-- ---- the headline

serve_done : (f : Found) (out : Sunk) (work : Work) (n : ℕ) → Completes f out work → IfGiven f (Serves n out)
serve_done OtherWords out work n completes = tt
serve_done Untold out work n completes = tt
serve_done (Lacking name) out work n completes = tt
serve_done (Refused refusal) out work n completes = tt
serve_done (Given s feeds) out work n completes = record { prefix = whole_is_prefix out.before out.after (reference s feeds) completes.1; done = λ d. completes.1; unbroken = λ e kept. completes.1 }

serve_unused : (f : Found) (out : Sunk) (n : ℕ) → (IsDone n → ⊥) → n ≢ 5 → out.after ≡ out.before → IfGiven f (Serves n out)
serve_unused OtherWords out n other uncut same = tt
serve_unused Untold out n other uncut same = tt
serve_unused (Lacking name) out n other uncut same = tt
serve_unused (Refused refusal) out n other uncut same = tt
serve_unused (Given s feeds) out n other uncut same = record { prefix = nothing_is_prefix out.before out.after (reference s feeds) same; done = λ d. absurd (other d); unbroken = λ e kept. absurd (uncut e) }

serve_broken : (f : Found) (out : Sunk) → Rose out.faults_before out.faults_after → Breaks f out → IfGiven f (Serves 5 out)
serve_broken OtherWords out rose breaks = tt
serve_broken Untold out rose breaks = tt
serve_broken (Lacking name) out rose breaks = tt
serve_broken (Refused refusal) out rose breaks = tt
serve_broken (Given s feeds) out rose breaks = record { prefix = breaks; done = λ d. absurd (elim d [ inl zero ↦ cc | inr seven ↦ cc ]); unbroken = λ e kept. absurd (kept rose) }

-- want of memory in the middle of the cycles
serve_halted : (f : Found) (out : Sunk) → Halts f out → IfGiven f (Serves 6 out)
serve_halted OtherWords out halts = tt
serve_halted Untold out halts = tt
serve_halted (Lacking name) out halts = tt
serve_halted (Refused refusal) out halts = tt
serve_halted (Given s feeds) out halts = record { prefix = halts; done = λ d. absurd (elim d [ inl zero ↦ cc | inr seven ↦ cc ]); unbroken = λ e kept. absurd (cc) }

-- a run that stopped before the alerts were written left `out` as it was
abbrev Unused : Ran → ℕ → Type 0
Unused r k = (MayWrite (found_by r) k → ⊥) → r.out.after ≡ r.out.before

-- nothing is written at a status that is told before the cycles
nothing_at : (f : Found) (k : ℕ) → k ≢ 0 → k ≢ 7 → k ≢ 5 → k ≢ 6 → MayWrite f k → ⊥
nothing_at f k not_intact not_damaged uncut remembered may = elim may [
  | inl done ↦ elim done [ inl zero ↦ not_intact zero | inr seven ↦ not_damaged seven ]
  | inr (inl five) ↦ uncut five
  | inr (inr memory) ↦ remembered memory.0
]

serve_stopped : (r : Ran) (k : ℕ) → k ≢ 0 → k ≢ 7 → k ≢ 5 → k ≢ 6 → Unused r k → IfGiven (found_by r) (Serves k r.out)
serve_stopped r k not_intact not_damaged uncut remembered unused =
    serve_unused (found_by r) r.out k (λ done. elim done [ inl zero ↦ not_intact zero | inr seven ↦ not_damaged seven ]) uncut (unused (nothing_at (found_by r) k not_intact not_damaged uncut remembered))

served_by : (r : Ran) (e : FaultText) → StopsBy e r → Unused r (stop_status e) → IfGiven (found_by r) (Serves (stop_status e) r.out)
served_by r texts.Usage stops unused = serve_stopped r 2 (λ e. cc) (λ e. cc) (λ e. cc) (λ e. cc) unused
served_by r (texts.Refused refusal) stops unused = serve_stopped r 3 (λ e. cc) (λ e. cc) (λ e. cc) (λ e. cc) unused
served_by r (texts.CannotOpen name) stops unused = serve_stopped r 4 (λ e. cc) (λ e. cc) (λ e. cc) (λ e. cc) unused
served_by r (texts.ReadFailed name) stops unused = serve_stopped r 4 (λ e. cc) (λ e. cc) (λ e. cc) (λ e. cc) unused
served_by r texts.WriteFailed stops unused = serve_broken (found_by r) r.out stops.0 stops.1
served_by r texts.NoMemory stops unused = serve_halted (found_by r) r.out stops

pub headline_of : (r : Ran) (e : Ending) (n : ℕ) (report : Sunk) → Ends r e → Finishes e n report → Unused r (status_of e) → IfGiven (found_by r) (Serves n r.out)
headline_of r (Ok work) n report ends finishes unused = serve_done (found_by r) r.out work n ends
headline_of r (Err stopped) n report ends finishes unused = rw finishes.0 (served_by r stopped ends unused)

-- where alert bytes may not have been written, they may not by the ending
pub unwritten_by_ending : (f : Found) (e : Ending) (n : ℕ) (report : Sunk) → Finishes e n report → (MayWrite f n → ⊥) → MayWrite f (status_of e) → ⊥
unwritten_by_ending f e n report finishes none may = elim (kept_or_missed e n report finishes) [
  | inl same ↦ none (rw same may)
  | inr missed ↦ none (inr (inl missed.0))
]

-- ---- the causes of the statuses 4 and 5

unread_by : (r : Ran) (e : FaultText) → StopsBy e r → stop_status e ≡ 4 → IsLacking (found_by r) ⊎ Rose r.world.before r.world.after
unread_by r texts.Usage stops is = absurd (cc)
unread_by r (texts.Refused refusal) stops is = absurd (cc)
unread_by r (texts.CannotOpen name) stops is = stops.2
unread_by r (texts.ReadFailed name) stops is = inr stops.2
unread_by r texts.WriteFailed stops is = absurd (cc)
unread_by r texts.NoMemory stops is = absurd (cc)

done_isnt : (b : Bool) (k : ℕ) → k ≢ 0 → k ≢ 7 → status_done b ≢ k
done_isnt true k not_intact not_damaged is = not_intact (sym is)
done_isnt false k not_intact not_damaged is = not_damaged (sym is)

pub unread_of : (r : Ran) (e : Ending) (n : ℕ) (report : Sunk) → Ends r e → Finishes e n report → n ≡ 4 → IsLacking (found_by r) ⊎ Rose r.world.before r.world.after
unread_of r (Ok work) n report ends (inl tells) is = absurd (done_isnt work.is_intact 4 (λ e. cc) (λ e. cc) (sym tells.status ∙ is))
unread_of r (Ok work) n report ends (inr misses) is = absurd (let missed = misses.status in cc)
unread_of r (Err stopped) n report ends finishes is = unread_by r stopped ends (sym finishes.0 ∙ is)

unwritten_by : (r : Ran) (e : FaultText) → StopsBy e r → stop_status e ≡ 5 → Rose r.out.faults_before r.out.faults_after
unwritten_by r texts.Usage stops is = absurd (cc)
unwritten_by r (texts.Refused refusal) stops is = absurd (cc)
unwritten_by r (texts.CannotOpen name) stops is = absurd (cc)
unwritten_by r (texts.ReadFailed name) stops is = absurd (cc)
unwritten_by r texts.WriteFailed stops is = stops.0
unwritten_by r texts.NoMemory stops is = absurd (cc)

pub unwritten_of : (r : Ran) (e : Ending) (n : ℕ) (report : Sunk) → Ends r e → Finishes e n report → n ≡ 5 → Rose r.out.faults_before r.out.faults_after ⊎ Rose report.faults_before report.faults_after
unwritten_of r (Ok work) n report ends (inl tells) is = absurd (done_isnt work.is_intact 5 (λ e. cc) (λ e. cc) (sym tells.status ∙ is))
unwritten_of r (Ok work) n report ends (inr misses) is = inr misses.rose
unwritten_of r (Err stopped) n report ends finishes is = inl (unwritten_by r stopped ends (sym finishes.0 ∙ is))

stop_isnt_done : (e : FaultText) (n : ℕ) → n ≡ stop_status e → IsDone n → ⊥
stop_isnt_done e n is done = elim (stop_statuses e) [
  | inl two ↦ elim done [ inl zero ↦ cc | inr seven ↦ cc ]
  | inr (inl three) ↦ elim done [ inl zero ↦ cc | inr seven ↦ cc ]
  | inr (inr (inl four)) ↦ elim done [ inl zero ↦ cc | inr seven ↦ cc ]
  | inr (inr (inr (inl five))) ↦ elim done [ inl zero ↦ cc | inr seven ↦ cc ]
  | inr (inr (inr (inr six))) ↦ elim done [ inl zero ↦ cc | inr seven ↦ cc ]
]

pub reported_of : (e : Ending) (n : ℕ) (report : Sunk) → Finishes e n report → IsDone n → report.faults_after ≡ report.faults_before
reported_of (Ok work) n report (inl tells) done = tells.kept
reported_of (Ok work) n report (inr misses) done = absurd (let missed = misses.status in elim done [ inl zero ↦ cc | inr seven ↦ cc ])
reported_of (Err stopped) n report finishes done = absurd (stop_isnt_done stopped n finishes.0 done)

-- ---- what `report` took

report_done : (f : Found) (out : Sunk) (work : Work) → Completes f out work → IsReport f work.report.items
report_done OtherWords out work completes = absurd completes
report_done Untold out work completes = completes
report_done (Lacking name) out work completes = absurd completes
report_done (Refused refusal) out work completes = absurd completes
report_done (Given s feeds) out work completes = completes.0.report

some_report : (f : Found) (out : Sunk) → Breaks f out → (report : List ℕ) × IsReport f report
some_report OtherWords out breaks = absurd breaks
some_report Untold out breaks = breaks
some_report (Lacking name) out breaks = absurd breaks
some_report (Refused refusal) out breaks = absurd breaks
some_report (Given s feeds) out breaks = (text_of (report_of s feeds), refl)

refusal_told : (f : Found) (refusal : Refusal) → Refuses f refusal → IsRefusal f (refusal_text refusal)
refusal_told OtherWords refusal refuses = absurd refuses
refusal_told Untold refusal refuses = (refusal, refl)
refusal_told (Lacking name) refusal refuses = absurd refuses
refusal_told (Refused first) refusal refuses = ap refusal_text refuses
refusal_told (Given s feeds) refusal refuses = absurd refuses

not_done_at : (k : ℕ) → k ≢ 0 → k ≢ 7 → IsDone k → ⊥
not_done_at k not_intact not_damaged done = elim done [ inl zero ↦ not_intact zero | inr seven ↦ not_damaged seven ]

due_by : (r : Ran) (e : FaultText) → StopsBy e r → IsDue r.files r.words (stop_status e) (text_of_fault e)
due_by r texts.Usage stops = record { done = λ d. absurd (not_done_at 2 (λ e. cc) (λ e. cc) d); usage = λ e. refl; refused = λ e. absurd (cc); unread = λ e. absurd (cc); unwritten = λ e. absurd (cc); memory = λ e. absurd (cc) }
due_by r (texts.Refused refusal) stops = record { done = λ d. absurd (not_done_at 3 (λ e. cc) (λ e. cc) d); usage = λ e. absurd (cc); refused = λ e. refusal_told (found_by r) refusal stops; unread = λ e. absurd (cc); unwritten = λ e. absurd (cc); memory = λ e. absurd (cc) }
due_by r (texts.CannotOpen name) stops = record { done = λ d. absurd (not_done_at 4 (λ e. cc) (λ e. cc) d); usage = λ e. absurd (cc); refused = λ e. absurd (cc); unread = λ e. (name, stops.1, inl refl); unwritten = λ e. absurd (cc); memory = λ e. absurd (cc) }
due_by r (texts.ReadFailed name) stops = record { done = λ d. absurd (not_done_at 4 (λ e. cc) (λ e. cc) d); usage = λ e. absurd (cc); refused = λ e. absurd (cc); unread = λ e. (name, stops.1, inr refl); unwritten = λ e. absurd (cc); memory = λ e. absurd (cc) }
due_by r texts.WriteFailed stops = record { done = λ d. absurd (not_done_at 5 (λ e. cc) (λ e. cc) d); usage = λ e. absurd (cc); refused = λ e. absurd (cc); unread = λ e. absurd (cc); unwritten = λ e. refl; memory = λ e. absurd (cc) }
due_by r texts.NoMemory stops = record { done = λ d. absurd (not_done_at 6 (λ e. cc) (λ e. cc) d); usage = λ e. absurd (cc); refused = λ e. absurd (cc); unread = λ e. absurd (cc); unwritten = λ e. absurd (cc); memory = λ e. refl }

late_by : (r : Ran) (e : FaultText) (report : Sunk) → StopsBy e r → stop_status e ≡ 5 → (text : List ℕ) × IsReport (found_by r) text × AppendsPrefix report.before report.before text
late_by r texts.Usage report stops is = absurd (cc)
late_by r (texts.Refused refusal) report stops is = absurd (cc)
late_by r (texts.CannotOpen name) report stops is = absurd (cc)
late_by r (texts.ReadFailed name) report stops is = absurd (cc)
late_by r texts.WriteFailed report stops is = (let some = some_report (found_by r) r.out stops.1 in (some.0, some.1, nothing_is_prefix report.before report.before some.0 refl))
late_by r texts.NoMemory report stops is = absurd (cc)

abbrev Due : Ran → ℕ → List ℕ → Type 0
Due r n text = IsDue r.files r.words n text

done_due : (r : Ran) (n : ℕ) (text : List ℕ) → IsDone n → IsReport (found_by r) text → Due r n text
done_due r n text done is = record {
  done = λ d. is;
  usage = λ e. absurd (elim done [ inl zero ↦ cc | inr seven ↦ cc ]);
  refused = λ e. absurd (elim done [ inl zero ↦ cc | inr seven ↦ cc ]);
  unread = λ e. absurd (elim done [ inl zero ↦ cc | inr seven ↦ cc ]);
  unwritten = λ e. absurd (elim done [ inl zero ↦ cc | inr seven ↦ cc ]);
  memory = λ e. absurd (elim done [ inl zero ↦ cc | inr seven ↦ cc ]);
}

missed_due : (r : Ran) → Due r 5 write_failed_text
missed_due r = record { done = λ d. absurd (not_done_at 5 (λ e. cc) (λ e. cc) d); usage = λ e. absurd (cc); refused = λ e. absurd (cc); unread = λ e. absurd (cc); unwritten = λ e. refl; memory = λ e. absurd (cc) }

pub told_of : (r : Ran) (e : Ending) (n : ℕ) (report : Sunk) → Ends r e → Finishes e n report → Reports r.files r.words n report
told_of r (Ok work) n report ends (inl tells) = record {
  text = work.report.items;
  due = done_due r n work.report.items (rw tells.status (done_statuses work.is_intact)) (report_done (found_by r) r.out work ends);
  middle = report.before;
  alone = λ other. refl;
  late = λ five. absurd (done_isnt work.is_intact 5 (λ e. cc) (λ e. cc) (sym tells.status ∙ five));
  taken = record { prefix = whole_is_prefix report.before report.after work.report.items tells.taken; whole = λ unrisen. tells.taken };
}
told_of r (Ok work) n report ends (inr misses) = record {
  text = write_failed_text;
  due = rw misses.status (missed_due r);
  middle = misses.middle;
  alone = λ other. absurd (other misses.status);
  late = λ five. (work.report.items, report_done (found_by r) r.out work ends, misses.begun);
  taken = misses.told;
}
told_of r (Err stopped) n report ends finishes = record {
  text = text_of_fault stopped;
  due = rw finishes.0 (due_by r stopped ends);
  middle = report.before;
  alone = λ other. refl;
  late = λ five. late_by r stopped report ends (sym finishes.0 ∙ five);
  taken = finishes.1;
}

-- ---- a name that wasn't opened or read

told_unread_by : (r : Ran) (e : FaultText) (report : Sunk) → StopsBy e r → stop_status e ≡ 4 → Takes report.before report (text_of_fault e) → TellsUnread r.files r.words r.world.before r.world.after report
told_unread_by r texts.Usage report stops is taken = absurd (cc)
told_unread_by r (texts.Refused refusal) report stops is taken = absurd (cc)
told_unread_by r (texts.CannotOpen name) report stops is taken = record { name = name; named = stops.1; text = cannot_open name; cause = inl (refl, stops.2); taken = taken }
told_unread_by r (texts.ReadFailed name) report stops is taken = record { name = name; named = stops.1; text = read_failed name; cause = inr (refl, stops.2); taken = taken }
told_unread_by r texts.WriteFailed report stops is taken = absurd (cc)
told_unread_by r texts.NoMemory report stops is taken = absurd (cc)

pub told_unread_of : (r : Ran) (e : Ending) (n : ℕ) (report : Sunk) → Ends r e → Finishes e n report → n ≡ 4 → TellsUnread r.files r.words r.world.before r.world.after report
told_unread_of r (Ok work) n report ends (inl tells) four = absurd (done_isnt work.is_intact 4 (λ e. cc) (λ e. cc) (sym tells.status ∙ four))
told_unread_of r (Ok work) n report ends (inr misses) four = (let five = misses.status in absurd (cc))
told_unread_of r (Err stopped) n report ends finishes four = told_unread_by r stopped report ends (sym finishes.0 ∙ four) finishes.1

-- ---- the report, whole and alone

pub whole_of : (r : Ran) (e : Ending) (n : ℕ) (report : Sunk) → Ends r e → Finishes e n report → IsDone n → ReportsWhole (found_by r) report.before report.after
whole_of r (Ok work) n report ends (inl tells) done = (work.report.items, report_done (found_by r) r.out work ends, tells.taken)
whole_of r (Ok work) n report ends (inr misses) done = absurd (not_done_at 5 (λ e. cc) (λ e. cc) (rw misses.status at done))
whole_of r (Err stopped) n report ends finishes done = absurd (stop_isnt_done stopped n finishes.0 done)

-- ---- the text of a write that failed, alone

alone_by : (e : FaultText) (report : Sunk) → stop_status e ≡ 5 → Takes report.before report (text_of_fault e) → (Rose report.faults_before report.faults_after → ⊥) → Appends report.before report.after write_failed_text
alone_by texts.Usage report is taken unrisen = absurd (cc)
alone_by (texts.Refused refusal) report is taken unrisen = absurd (cc)
alone_by (texts.CannotOpen name) report is taken unrisen = absurd (cc)
alone_by (texts.ReadFailed name) report is taken unrisen = absurd (cc)
alone_by texts.WriteFailed report is taken unrisen = taken.whole unrisen
alone_by texts.NoMemory report is taken unrisen = absurd (cc)

pub alone_of : (e : Ending) (n : ℕ) (report : Sunk) → Finishes e n report → n ≡ 5 → (Rose report.faults_before report.faults_after → ⊥) → Appends report.before report.after write_failed_text
alone_of (Ok work) n report (inl tells) five unrisen = absurd (done_isnt work.is_intact 5 (λ e. cc) (λ e. cc) (sym tells.status ∙ five))
alone_of (Ok work) n report (inr misses) five unrisen = absurd (unrisen misses.rose)
alone_of (Err stopped) n report finishes five unrisen = alone_by stopped report (sym finishes.0 ∙ five) finishes.1 unrisen
