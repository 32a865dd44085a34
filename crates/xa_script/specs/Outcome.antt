-- What a run of a script comes to, in turns and in threads, and what its transcript is.
use Rattle.std.specs.Prelude.{◌≡◌, ℕ, Option, List, All}
use Rattle.std.specs.Io.KnownBytes.{Appends}
use Rattle.xa_base.specs.Lists.{Chain}
use Rattle.xa_desk.specs.Ended.{EndedView}
use Rattle.xa_worker.specs.Workers.{WorkerView}
use Rattle.xa_worker.specs.Done.{Served}
use Rattle.xa_switch.specs.Settled.{Settling, IsSettled}
use Rattle.xa_switch.specs.Closing.{settling}
use Rattle.script_grammar.specs.declared.script.Declared.{Declared}
use Rattle.script_grammar.specs.Steps.{ScriptStep}
use Rattle.script_grammar.specs.Contents.{Content, NoneReopens}
use Rattle.script_transcript.specs.declared.answer.TranscriptLine.{TranscriptLine}
use Rattle.script_session.specs.declared.session.Session.{Session}
use Rattle.laws_transcript.specs.ToldOpenings.{Beginning, ToldOpening, Former, Leaves, Tells, beginning}
use Rattle.laws_transcript.specs.ToldOpenings.{steps_over, answers_over}
use Rattle.laws_transcript.specs.Runs.{OpeningRan}
use Rattle.script_transcript.specs.Transcript.{text}
use Rattle.script_command.specs.declared.mode.RunMode.{RunMode}
use Rattle.script_command.specs.declared.mode.RunMode.TheVariants.{Turns, Threads}
use Rattle.xa_script.specs.InTurns.{InTurns}
use Rattle.xa_script.specs.InThreads.{InThreads}

-- How the threads and the workers of an opening came by its lines to desks that have ended and workers that have run,
-- and what was answered.
abbrev pub Runs : RunMode → Content → List ScriptStep → List Session → List Session → List WorkerView → List EndedView
    → List Served
    → List TranscriptLine → Type 0
Runs Turns s steps sessions left workers ended done answers = InTurns steps sessions left workers ended done answers
Runs Threads s steps sessions left workers ended done answers =
    InThreads s steps sessions left workers ended done answers

-- In this way the threads and the workers of an opening that begins so have come to what was settled.
pub record HasCome (m : RunMode) (s : Content) (b : Beginning) (o : ToldOpening) (left : List Session) : Type 0 where
  pub sessions : List Session
  pub workers : List WorkerView
  pub ended : List EndedView
  pub done : List Served
  pub runs : Runs m s o.steps sessions left workers ended done o.answers
  pub ran : OpeningRan s b o.steps o.answers sessions left workers ended done
  pub settles : o.settled ≡ settling ended done
  pub number : o.settled.opening ≡ b.opening
  pub agree : IsSettled o.settled

-- And then it was opened again.
pub record FollowsOpening (m : RunMode) (s : Content) (f : Former) (old new : Beginning) : Type 0 where
  pub left : List Session
  pub comes : HasCome m s old f.opening left
  pub leaves : Leaves s f old new

-- The script was run in this way, in one opening after the other.
pub record IsOutcome (m : RunMode) (s : Content) (answers : List TranscriptLine) (before : List Former)
    (last : ToldOpening) : Type 0 where
  pub steps : s.steps ≡ steps_over before last
  pub answers_ : answers ≡ answers_over before last
  pub ones : All (λ f. NoneReopens f.opening.steps) before × NoneReopens last.steps
  pub begins : Beginning
  pub former : Chain (FollowsOpening m s) (beginning s) before begins
  pub left : List Session
  pub latest : HasCome m s begins last left

-- It was run in some way, and this is what was settled last.
pub record IsScriptRun (s : Content) (answers : List TranscriptLine) (settled : Settling) : Type 0 where
  pub mode : RunMode
  pub before : List Former
  pub last : ToldOpening
  pub outcome : IsOutcome mode s answers before last
  pub settles : last.settled ≡ settled

-- What a writer holds grew by the transcript of a script that was run in this way, and that tells of its openings.
pub record Writes (m : RunMode) (s : Content) (before after : Option (List ℕ)) : Type 0 where
  pub answers : List TranscriptLine
  pub former : List Former
  pub latest : ToldOpening
  pub outcome : IsOutcome m s answers former latest
  pub values : List Declared
  pub tells : Tells s answers values former latest
  pub written : Appends before after (text answers values)
