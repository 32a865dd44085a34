-- A thread of a script, and what it comes to with its desk.
use Rattle.std.specs.Prelude.{◌≡◌, ℕ, false, []}
use Rattle.xa_desk.specs.DeskViews.{DeskView}
use Rattle.xa_scan.specs.Left.{no_scan}
use Rattle.script_grammar.specs.Contents.{Content, tasks_of}
use Rattle.xa_base.specs.Lists.{Chain}
use Rattle.xa_script.specs.declared.script_thread.ScriptThread.{ScriptThread}
use Rattle.script_session.specs.Sessions.{log_of, session_of, HasDone}

-- Thread t of the script before it does anything: its own tasks, no answer, a log without a record, and nothing left to
-- scan.
pub record IsNewThread (s : Content) (t : ℕ) (x : ScriptThread) : Type 0 where
  pub own : x.thread ≡ t
  pub log : x.log ≡ log_of s t
  pub scan : x.scan ≡ no_scan
  pub tasks : x.tasks ≡ tasks_of t s.steps
  pub told : x.told ≡ []

-- The thread keeps its number, and unless memory was refused it did its tasks with the desk, one after the other, and
-- has told their answers.
pub record ThreadWorks (x : ScriptThread) (d : DeskView) (x' : ScriptThread) (d' : DeskView) : Type 0 where
  pub own : x'.thread ≡ x.thread
  pub runs : x'.wants_memory ≡ false
      → Chain HasDone (session_of d x.log x.scan, x.told) x.tasks
      (session_of d' x'.log x'.scan, x'.told)
