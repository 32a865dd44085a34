-- A run of a script in threads: what each thread of the script comes to.
use Rattle.std.specs.Prelude.{◌≡◌, List, [], ◌++◌, map}
use Rattle.std.specs.List.{flat_map}
use Rattle.xa_desk.specs.Ended.{EndedView}
use Rattle.xa_worker.specs.Workers.{WorkerView}
use Rattle.xa_worker.specs.Done.{Served}
use Rattle.script_grammar.specs.Steps.{ScriptStep}
use Rattle.script_grammar.specs.Contents.{Content, tasks_of}
use Rattle.xa_base.specs.Lists.{Chain, Pairwise}
use Rattle.xa_crew.specs.declared.client_job.Attended.{Attended}
use Rattle.xa_crew.specs.Ending.{EndsDesk}
use Rattle.xa_crew.specs.Pieces.{HasServed}
use Rattle.xa_crew.specs.Run.{Member}
use Rattle.script_transcript.specs.declared.answer.TranscriptLine.{TranscriptLine}
use Rattle.xa_script.specs.declared.script_thread.ScriptThread.{ScriptThread}
use Rattle.script_session.specs.declared.session.Session.{Session}
use Rattle.script_session.specs.Sessions.{new_session, HasDone}
use Rattle.script_transcript.specs.ThreadEnds.{all_ended}

-- What a thread tells: what its tasks answered, and what was outstanding after them.
abbrev pub lines_of_thread : Attended ScriptThread → List TranscriptLine
lines_of_thread t = t.client.told ++ all_ended t.client.thread t.outstanding.items

-- The thread did its own tasks among these steps, one after the other, with the desk and a log without a record, and
-- came to this; then what was outstanding was collected, and the desk ended.
pub record HasDoneItsTasks (s : Content) (steps : List ScriptStep) (t : Member ScriptThread) (left : Session)
    : Type 0 where
  pub own : t.attended.client.thread ≡ t.desk.thread
  pub runs : Chain HasDone (new_session s t.desk, []) (tasks_of t.desk.thread steps)
      (left, t.attended.client.told)
  pub ends : EndsDesk left.desk [] t.ended t.attended.outstanding.items

-- Each thread of the script worked with a desk of the first opening, each worker ran to the last end mark, and the
-- answers are those of the threads by rising number.
pub record InThreads (s : Content) (steps : List ScriptStep) (sessions left : List Session) (workers : List WorkerView)
    (ended : List EndedView) (done : List Served) (answers : List TranscriptLine) : Type 0 where
  pub threads : List (Member ScriptThread)
  pub sessions_are : sessions ≡ map (λ t. new_session s t.desk) threads
  pub worked : Pairwise (HasDoneItsTasks s steps) threads left
  pub ended_are : ended ≡ map (λ t. t.ended) threads
  pub served : Pairwise HasServed workers done
  pub answered : answers ≡ flat_map (λ t. lines_of_thread t.attended) threads
