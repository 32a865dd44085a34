-- A thread of a script, and what its tasks do.
use Rattle.std.specs.Prelude.{◌≡◌, ℕ, Bool, false, Option, None, Some, IsTrue, unwrap_or, List, [], ◌∷◌, ◌++◌, map, zip}
use Rattle.xa_desk.specs.DeskViews.{DeskView}
use Rattle.xa_desk.specs.GoingOn.{GoesOn}
use Rattle.xa_desk.specs.Kept.{AllKept}
use Rattle.xa_scan.specs.Left.{ScanView, no_scan}
use Rattle.xa_log.specs.Log.{no_records}
use Rattle.xa_log.specs.Trial.{new_trial, trial_reopened}
use Rattle.script_grammar.specs.declared.step.Action.TheVariants.{Call, CommitAll, Resolve}
use Rattle.script_grammar.specs.Steps.{ScriptAction, ScriptTask}
use Rattle.script_grammar.specs.Contents.{Content, failing_append, unknown_append}
use Rattle.script_grammar.specs.declared.script.UnknownAppend.{UnknownAppend}
use Rattle.script_transcript.specs.declared.answer.Answer.{Answer}
use Rattle.script_transcript.specs.declared.answer.TranscriptLine.{TranscriptLine}
use Rattle.script_transcript.specs.declared.answer.TranscriptLine.TheVariants.{Answered}
use Rattle.script_session.specs.declared.session.Session.{Session}
use Rattle.script_session.specs.ManagerCalls.{CallAnswers, manager_call_waits}
use Rattle.script_session.specs.Logs.{ThreadLog}
use Rattle.script_session.specs.Committing.{CanCommit, CommitsAll}
use Rattle.script_session.specs.Resolving.{CanResolve, ResolvesLeft}

-- Which append has an unknown end, and whether the log turns out to have the record.
abbrev pub losing_of : Option UnknownAppend → ℕ
losing_of None = 0
losing_of (Some end) = end.append

abbrev pub keeps_of : Option UnknownAppend → Bool
keeps_of None = false
keeps_of (Some end) = end.kept

-- The log of thread t at first: without a record and without room for one. None of its appends fails, and none has an
-- unknown end, but those that lines of the script name.
abbrev pub log_of : Content → ℕ → ThreadLog
log_of s t = record (new_trial (record { state = no_records; room = 0 })) {
  failing = unwrap_or (failing_append s t) 0;
  losing = losing_of (unknown_append s t);
  keeps = keeps_of (unknown_append s t);
}

-- A desk with a log and with scans.
abbrev pub session_of : DeskView → ThreadLog → ScanView → Session
session_of d l z = record { desk = d; log = l; scan = z }

-- The thread of this desk at the first opening.
abbrev pub new_session : Content → DeskView → Session
new_session s d = session_of d (log_of s d.thread) no_scan

-- The threads at first, each with its desk and a log of its own.
abbrev pub new_sessions : Content → List DeskView → List Session
new_sessions s desks = map (new_session s) desks

-- The threads of these desks at a later opening, each with the log that it had, opened again, and with the scans that
-- it got.
abbrev pub sessions_again : List DeskView → List ThreadLog → List ScanView → List Session
sessions_again desks logs scans = map (λ x. session_of x.0.0 (trial_reopened x.0.1) x.1) (zip (zip desks logs) scans)

-- What a task that asks for this does to its thread, and what it answers. A call leaves the log, a commit the scans,
-- and a resolve both.
abbrev pub Executes : ScriptAction → Session → Session → Answer → Type 0
Executes (Call c) old new a = CallAnswers c.call c old.desk old.scan new.desk new.scan a × (new.log ≡ old.log)
Executes (CommitAll c) old new a = CommitsAll c old new a
Executes Resolve old new a = ResolvesLeft old new a

-- A task that asks for this may wait: a call that may, a commit that may be made, and a resolve that may.
abbrev pub MayWait : ScriptAction → Session → Type 0
MayWait (Call c) old = IsTrue (manager_call_waits c.call c old.desk old.scan)
MayWait (CommitAll c) old = CanCommit c old
MayWait Resolve old = CanResolve old

-- What a task does to its thread, and what it answers. The desk goes on, and what is outstanding stays kept.
pub record TaskDoes (x : ScriptAction) (old new : Session) (a : Answer) : Type 0 where
  pub executes : Executes x old new a
  pub goes_on : GoesOn old.desk new.desk
  pub kept : AllKept old.desk → AllKept new.desk

-- What is told of a task that answered this.
abbrev pub told_of : ScriptTask → Answer → TranscriptLine
told_of p a = Answered p.line p.thread a

-- The thread does a task, and what it answered is told after what was told before.
pub record HasDone (p : ScriptTask) (old new : Session × List TranscriptLine) : Type 0 where
  pub answer : Answer
  pub does : TaskDoes p.action old.0 new.0 answer
  pub told : new.1 ≡ old.1 ++ told_of p answer ∷ []
