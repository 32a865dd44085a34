-- An opening of a script in turns: what its steps do to its threads of control and its workers, and how they end.
use Rattle.std.specs.Prelude.{◌≡◌, ℕ, ◌-◌, Some, List, [], ◌∷◌, ◌++◌, slice_get, slice_set}
use Rattle.xa_words.specs.declared.code.Code.{Code}
use Rattle.xa_desk.specs.Ended.{EndedView}
use Rattle.xa_worker.specs.declared.step.WorkerStep.{WorkerStep as Did}
use Rattle.xa_worker.specs.Workers.{WorkerView}
use Rattle.xa_worker.specs.Done.{Served}
use Rattle.script_grammar.specs.declared.step.Step.TheVariants as step
use Rattle.script_grammar.specs.Steps.{ScriptTask, ScriptStep}
use Rattle.xa_base.specs.Lists.{Chain, Pairwise}
use Rattle.xa_crew.specs.Ending.{EndsDesk}
use Rattle.xa_crew.specs.Pieces.{HasServed}
use Rattle.script_transcript.specs.declared.answer.Answer.{Answer}
use Rattle.script_transcript.specs.declared.answer.TranscriptLine.{TranscriptLine}
use Rattle.script_transcript.specs.declared.answer.TranscriptLine.TheVariants as told
use Rattle.script_session.specs.declared.session.Session.{Session}
use Rattle.script_session.specs.Sessions.{TaskDoes, MayWait, told_of}
use Rattle.script_transcript.specs.ThreadEnds.{all_ended}
use Rattle.xa_crew.specs.Turns.{AllGoOn, TakesTurn}

-- ---- the steps of a script

-- The threads of control by rising number, and the workers by rising manager.
pub record Stage : Type 0 where
  pub sessions : List Session
  pub workers : List WorkerView

abbrev pub stage_of : List Session → List WorkerView → Stage
stage_of sessions workers = record { sessions = sessions; workers = workers }

-- A thread does its task while workers go on, and the other threads stay. Where the task can't wait, so do the workers.
pub record HasCalled (p : ScriptTask) (old new : Stage) (line : TranscriptLine) : Type 0 where
  pub before : Session
  pub after : Session
  pub at : slice_get old.sessions (p.thread - 1) ≡ Some before
  pub answer : Answer
  pub does : TaskDoes p.action before after answer
  pub told : line ≡ told_of p answer
  pub rest : new.sessions ≡ slice_set old.sessions (p.thread - 1) after
  pub turns : AllGoOn old.workers new.workers
  pub prompt : ¬ MayWait p.action before → new.workers ≡ old.workers

-- A manager's worker takes a turn, and the threads stay.
pub record HasTurned (number m : ℕ) (old new : Stage) (line : TranscriptLine) : Type 0 where
  pub did : Did
  pub turn : TakesTurn m did old.workers new.workers
  pub told : line ≡ told.Turned number did
  pub rest : new.sessions ≡ old.sessions

-- What a step of an opening does to the threads and the workers, and the line that tells of it; a line that reopens is
-- none.
abbrev pub DoesStep : ScriptStep → Stage → Stage → TranscriptLine → Type 0
DoesStep (step.Task p) old new line = HasCalled p old new line
DoesStep (step.Turn number m) old new line = HasTurned number m old new line
DoesStep (step.Reopen number) old new line = ⊥

-- A run at some moment: the threads and the workers, and the answers so far.
pub record TurnsAt : Type 0 where
  pub stage : Stage
  pub answers : List TranscriptLine

abbrev pub turns_at : List Session → List WorkerView → List TranscriptLine → TurnsAt
turns_at sessions workers answers = record { stage = stage_of sessions workers; answers = answers }

-- A step goes on with a run.
pub record HasStepped (p : ScriptStep) (old new : TurnsAt) : Type 0 where
  pub line : TranscriptLine
  pub steps : DoesStep p old.stage new.stage line
  pub told : new.answers ≡ old.answers ++ line ∷ []

-- These steps went so, one after the other.
abbrev pub HasMadeSteps : TurnsAt → List ScriptStep → TurnsAt → Type 0
HasMadeSteps first steps now = Chain HasStepped first steps now

-- ---- what is outstanding after the last step

-- A run as it ends: the desks that have ended by rising thread, the workers, and the answers so far.
pub record Closing : Type 0 where
  pub ended : List EndedView
  pub workers : List WorkerView
  pub answers : List TranscriptLine

-- The desk of one more thread ends, while workers go on, and what was outstanding is told.
pub record HasEndedDesk (session : Session) (old new : Closing) : Type 0 where
  pub view : EndedView
  pub outstanding : List (ℕ × Code)
  pub ends : EndsDesk session.desk [] view outstanding
  pub ended : new.ended ≡ old.ended ++ view ∷ []
  pub told : new.answers ≡ old.answers ++ all_ended session.desk.thread outstanding
  pub turns : AllGoOn old.workers new.workers

-- The desks of these threads have ended, one after the other.
abbrev pub HaveEnded : Closing → List Session → Closing → Type 0
HaveEnded first sessions now = Chain HasEndedDesk first sessions now

abbrev pub closing_of : List EndedView → List WorkerView → List TranscriptLine → Closing
closing_of ended workers answers = record { ended = ended; workers = workers; answers = answers }

-- ---- the whole opening

-- The threads went through all these steps; then their desks ended one after the other, and then each worker ran to the
-- last end mark.
pub record InTurns (steps : List ScriptStep) (sessions left : List Session) (workers : List WorkerView)
    (ended : List EndedView)
    (done : List Served) (answers : List TranscriptLine) : Type 0 where
  pub ran : TurnsAt
  pub runs : HasMadeSteps (turns_at sessions workers []) steps ran
  pub left_are : left ≡ ran.stage.sessions
  pub closed : Closing
  pub closes : HaveEnded (closing_of [] ran.stage.workers ran.answers) ran.stage.sessions closed
  pub ended_are : ended ≡ closed.ended
  pub served : Pairwise HasServed closed.workers done
  pub answered : answers ≡ closed.answers
