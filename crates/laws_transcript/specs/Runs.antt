-- What the threads and the managers of an opening have come to, whichever way they were run.
use Rattle.std.specs.Prelude.{◌≡◌, ◌≢◌, ℕ, ◌+◌, false, Some, All, List, [], length, map, slice_get}
use Rattle.xa_words.specs.declared.code.Code.{Code}
use Rattle.xa_desk.specs.Ended.{EndedView}
use Rattle.xa_worker.specs.Workers.{WorkerView}
use Rattle.xa_worker.specs.Done.{Served}
use Rattle.script_grammar.specs.Steps.{ScriptStep}
use Rattle.script_grammar.specs.Contents.{Content, tasks_of, Fits, threads_of, managers_of}
use Rattle.xa_base.specs.Lists.{Chain, Pairwise}
use Rattle.xa_crew.specs.Ending.{EndsDesk}
use Rattle.xa_crew.specs.Pieces.{HasServed}
use Rattle.script_transcript.specs.declared.answer.TranscriptLine.{TranscriptLine}
use Rattle.script_session.specs.Logs.{log_state}
use Rattle.script_session.specs.declared.session.Session.{Session}
use Rattle.script_session.specs.Sessions.{HasDone}
use Rattle.script_transcript.specs.ThreadEnds.{all_ended}
use Rattle.laws_transcript.specs.Planning.{AreOpened}
use Rattle.laws_transcript.specs.Journals.{answers_to, ends_of}
use Rattle.laws_transcript.specs.ToldOpenings.{Beginning}

-- The thread has come to this by its tasks; then what was outstanding was collected, and its desk ended.
pub record ThreadComes (steps : List ScriptStep) (answers : List TranscriptLine) (x left : Session) (e : EndedView)
    : Type 0 where
  pub runs : Chain HasDone (x, []) (tasks_of x.desk.thread steps) (left, answers_to x.desk.thread answers)
  pub outstanding : List (ℕ × Code)
  pub ends : EndsDesk left.desk [] e outstanding
  pub told : ends_of x.desk.thread answers ≡ all_ended x.desk.thread outstanding

-- The thread has the log and the scans with which thread t begins, and the log is known.
pub record BeginsAs (b : Beginning) (t : ℕ) (x : Session) : Type 0 where
  pub log : log_state x.log ≡ b.logs t
  pub known : x.log.is_lost ≡ false
  pub scan : x.scan ≡ b.scans t

-- All threads and all managers of an opening that begins so have come to this: each thread did its tasks among these
-- steps and its desk ended, each worker ran to the last end mark, and no other thread was answered anything.
pub record OpeningRan (s : Content) (b : Beginning) (steps : List ScriptStep) (answers : List TranscriptLine)
    (sessions left : List Session) (workers : List WorkerView) (ended : List EndedView) (done : List Served)
    : Type 0 where
  pub opened : AreOpened s b.opening b.tables (map (λ x. x.desk) sessions) workers
  pub begins : (k : ℕ) (x : Session) → slice_get sessions k ≡ Some x → BeginsAs b (k + 1) x
  pub fits : All (Fits (threads_of s) (managers_of s)) steps
  pub many_left : length left ≡ length sessions
  pub many_ended : length ended ≡ length sessions
  pub threads : (k : ℕ) (x y : Session) (e : EndedView) → slice_get sessions k ≡ Some x → slice_get left k ≡ Some y
      → slice_get ended k ≡ Some e → ThreadComes steps answers x y e
  pub others : (t : ℕ) → ((k : ℕ) (x : Session) → slice_get sessions k ≡ Some x → x.desk.thread ≢ t)
      → tasks_of t steps ≡ [] → (answers_to t answers ≡ []) × (ends_of t answers ≡ [])
  pub managers : Pairwise HasServed workers done
