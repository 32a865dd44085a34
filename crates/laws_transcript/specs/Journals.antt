-- What the lines of a script have put into the managers' journals, and what they have logged.
use Rattle.std.specs.Prelude.{◌≡◌, ℕ, ◌<◌, pos, Bool, true, false, ◌==◌, Some, List, ◌++◌, map, filter, slice_get}
use Rattle.std.specs.List.{All, AllPairs, Contains, list_any}
use Rattle.std.specs.Ordering.{nat_cmp}
use Rattle.std.specs.FinMap as finmap
use Rattle.xa_base.specs.Lists.{Chain}
use Rattle.xa_words.specs.declared.code.Code.{Code}
use Rattle.xa_words.specs.declared.code.Code.TheVariants.{Done}
use Rattle.xa_words.specs.declared.request.Op.{Op}
use Rattle.xa_words.specs.declared.request.Op.TheVariants.{Prepare, Commit}
use Rattle.xa_desk.specs.declared.operation.Operation.{Operation}
use Rattle.xa_worker.specs.Journal.{Entry, entry}
use Rattle.xa_switch.specs.Settled.{Settling, journal}
use Rattle.xa_scan.specs.Left.{ScanView}
use Rattle.xa_driver.specs.declared.branch.Branch.{Branch}
use Rattle.xa_driver.specs.declared.done.CommitOutcome.{CommitOutcome}
use Rattle.xa_driver.specs.declared.done.CommitOutcome.TheVariants as outcome
use Rattle.xa_driver.specs.declared.done.Done.{Done as Outcome}
use Rattle.xa_driver.specs.declared.done.Ending.TheVariants.{Committed}
use Rattle.xa_driver.specs.Decision.{is_no}
use Rattle.xa_log.specs.Log.{LogState}
use Rattle.xa_words.specs.Tran.{TranName}
use Rattle.script_grammar.specs.declared.step.CommitAll.{CommitAll}
use Rattle.script_grammar.specs.declared.step.Action.TheVariants as action
use Rattle.script_grammar.specs.Steps.{ScriptCalled, ScriptAction, ScriptTask, ScriptStep}
use Rattle.script_grammar.specs.Contents.{tasks_of}
use Rattle.script_transcript.specs.declared.answer.Answer.{Answer}
use Rattle.script_transcript.specs.declared.answer.TranscriptLine.{TranscriptLine}
use Rattle.script_transcript.specs.declared.answer.Answer.TheVariants as answer
use Rattle.script_transcript.specs.declared.answer.TranscriptLine.TheVariants as told
use Rattle.script_session.specs.Sessions.{told_of}
use Rattle.script_session.specs.Committing.{branches_of}
use Rattle.laws_transcript.specs.Wants.{wanted_in}
use Rattle.laws_transcript.specs.Wants.Wanted.{code_of}
use Rattle.script_transcript.specs.ThreadEnds.{all_ended}
use Rattle.laws_transcript.specs.Parts.{Part, CallTakes, HasCode}
use Rattle.laws_transcript.specs.Commits.{CommitTakes}
use Rattle.laws_transcript.specs.Resolves.{ResolveTakes}

-- ---- the lines of a thread

-- What a task of thread t that asks for this does to the thread's part.
abbrev pub TaskTakes : Settling → ScriptAction → ℕ → Answer → Part → Part → Type 0
TaskTakes settled (action.Call q) t a old new = CallTakes settled t q a old new
TaskTakes settled (action.CommitAll c) t a old new = CommitTakes t c a old new
TaskTakes settled action.Resolve t a old new = ResolveTakes t a old new

-- A line of a thread, with its answer in the transcript.
pub record Line : Type 0 where
  pub task : ScriptTask
  pub answer : Answer

-- What a line does to its thread's part.
abbrev pub TakesPart : Settling → Line → Part → Part → Type 0
TakesPart settled l old new = TaskTakes settled l.task.action l.task.thread l.answer old new

-- It is what a line of thread t answered.
abbrev pub is_to : ℕ → TranscriptLine → Bool
is_to t (told.Answered line thread answer) = thread == t
is_to t other = false

-- What the lines of thread t answered.
abbrev pub answers_to : ℕ → List TranscriptLine → List TranscriptLine
answers_to t answers = filter (is_to t) answers

-- It tells what was outstanding after the last line of thread t.
abbrev pub is_end_of : ℕ → TranscriptLine → Bool
is_end_of t (told.Ended thread handle retval) = thread == t
is_end_of t other = false

-- These lines of thread t.
abbrev pub ends_of : ℕ → List TranscriptLine → List TranscriptLine
ends_of t answers = filter (is_end_of t) answers

-- What a journal has of thread t.
abbrev pub entries_of : ℕ → List Entry → List Entry
entries_of t entries = filter (λ e. e.0.thread == t) entries

-- These are the handles that are left to thread t, by rising number, each with the code that stands in its manager's
-- journal for what it stands for.
pub record AreHandlesLeft (settled : Settling) (t : ℕ) (left : finmap.FinMap nat_cmp Operation)
    (outstanding : List (ℕ × Code)) : Type 0 where
  pub coded : All (λ x. (o : Operation) × (finmap.get left x.0 ≡ Some o) × HasCode settled t o x.1) outstanding
  pub all : (k : ℕ) (o : Operation) → finmap.get left k ≡ Some o → Contains (map (λ x. x.0) outstanding) k
  pub rising : AllPairs (λ x y. x.0 < y.0) outstanding

-- The lines of thread t among those of an opening, each with its answer; and line by line, from the part that the
-- thread has at first, each manager's journal has what they put to it, in their order, and nothing else of the thread.
-- After them these handles, this log, known or not, and these scans are left, and the `end` lines show the handles with
-- their codes.
pub record AreCarriedOut (steps : List ScriptStep) (answers : List TranscriptLine) (settled : Settling) (t : ℕ)
    (first : Part) : Type 0 where
  pub lines : List Line
  pub tasks : map (λ l. l.task) lines ≡ tasks_of t steps
  pub told : map (λ l. told_of l.task l.answer) lines ≡ answers_to t answers
  pub left : finmap.FinMap nat_cmp Operation
  pub log : LogState
  pub is_lost : Bool
  pub scan : ScanView
  pub carried : Chain (TakesPart settled) first lines
      (record {
        entries = λ m. entries_of t (journal settled m);
        handles = left;
        log = log;
        is_lost = is_lost;
        scan = scan;
      })
  pub outstanding : List (ℕ × Code)
  pub are_left : AreHandlesLeft settled t left outstanding
  pub ends : ends_of t answers ≡ all_ended t outstanding

-- ---- what a line shows

-- Thread t put this op to manager m, which carried it out with this code.
abbrev pub IsInJournal : Settling → ℕ → ℕ → Op → Code → Type 0
IsInJournal settled m t o c =
    (n : ℕ) × Contains (journal settled m) (entry (record { thread = t; number = n; op = o }) c)

-- What the line asked for without TMASYNC, and answered XA_OK to, is in its manager's journal with XA_OK.
abbrev pub IsCarriedOut : Settling → Line → Type 0
IsCarriedOut settled l = (q : ScriptCalled) (o : Op) → l.task.action ≡ action.Call q → wanted_in q ≡ code_of o
    → l.answer ≡ answer.Called (pos 0) → IsInJournal settled q.manager l.task.thread o Done

-- The line is a commit of several branches, and came to this.
pub record ShowsCommit (l : Line) (c : CommitAll TranName) (o : CommitOutcome) : Type 0 where
  pub asks : l.task.action ≡ action.CommitAll c
  pub tells : l.answer ≡ answer.Commit o

-- Each branch that the line shows as committed has its Commit in its manager's journal, with XA_OK.
abbrev pub AreCommitted : Settling → Line → Type 0
AreCommitted settled l = (c : CommitAll TranName) (done : Outcome) → ShowsCommit l c (outcome.Decided done)
    → (k : ℕ) (b : Branch) → slice_get (branches_of c) k ≡ Some b → slice_get done.endings.items k ≡ Some Committed
    → IsInJournal settled b.m l.task.thread (Commit b.xid false) Done

-- Where the line shows that its transaction commits, each of its branches has its Prepare in its manager's journal,
-- with XA_OK or XA_RDONLY.
abbrev pub ArePrepared : Settling → Line → Type 0
ArePrepared settled l = (c : CommitAll TranName) (done : Outcome) → ShowsCommit l c (outcome.Decided done)
    → done.commit ≡ true → (k : ℕ) (b : Branch) → slice_get (branches_of c) k ≡ Some b
    → (vote : Code) × (is_no vote ≡ false) × IsInJournal settled b.m l.task.thread (Prepare b.xid) vote

-- Something was added, and no such request among it.
abbrev pub AddsNone : (Op → Bool) → List Entry → List Entry → Type 0
AddsNone is old new = (more : List Entry) × (new ≡ old ++ more) × (list_any (λ e. is e.0.op) more ≡ false)
