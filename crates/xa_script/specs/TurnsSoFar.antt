-- A script in turns at some moment: the openings before the one that is open, and how far that has come.
use Rattle.std.specs.Prelude.{◌≡◌, ℕ, ◌+◌, Some, All, List, [], ◌∷◌, ◌++◌, map, slice_get}
use Rattle.std.specs.List.{flat_map}
use Rattle.xa_base.specs.Lists.{Chain}
use Rattle.xa_worker.specs.Workers.{WorkerView}
use Rattle.script_session.specs.Logs.{ThreadLog}
use Rattle.script_grammar.specs.declared.step.Step.TheVariants as step
use Rattle.script_grammar.specs.Steps.{ScriptStep}
use Rattle.script_grammar.specs.Contents.{Content, Fits, threads_of, managers_of, NoneReopens}
use Rattle.script_transcript.specs.declared.answer.TranscriptLine.{TranscriptLine}
use Rattle.script_transcript.specs.declared.answer.TranscriptLine.TheVariants.{Reopened}
use Rattle.script_session.specs.declared.session.Session.{Session}
use Rattle.laws_transcript.specs.Planning.{AreOpened}
use Rattle.laws_transcript.specs.ToldOpenings.{Beginning, ToldOpening, Former, beginning}
use Rattle.laws_transcript.specs.Runs.{BeginsAs}
use Rattle.script_command.specs.declared.mode.RunMode.TheVariants as mode
use Rattle.xa_script.specs.InTurns.{HasMadeSteps, turns_at}
use Rattle.xa_script.specs.Outcome.{HasCome, FollowsOpening}

-- These are the threads and the workers of an opening that begins so.
pub record IsOpen (s : Content) (b : Beginning) (sessions : List Session) (workers : List WorkerView) : Type 0 where
  pub opened : AreOpened s b.opening b.tables (map (λ x. x.desk) sessions) workers
  pub begins : (k : ℕ) (x : Session) → slice_get sessions k ≡ Some x → BeginsAs b (k + 1) x

-- An opening that begins so has come to these threads and workers by these steps, which have these answers.
pub record Goes (s : Content) (b : Beginning) (steps : List ScriptStep) (answers : List TranscriptLine)
    (sessions : List Session) (workers : List WorkerView) : Type 0 where
  pub first : List Session
  pub first_workers : List WorkerView
  pub is_open : IsOpen s b first first_workers
  pub made : HasMadeSteps (turns_at first first_workers []) steps (turns_at sessions workers answers)
  pub fits : All (Fits (threads_of s) (managers_of s)) steps

-- It has come to what was settled, and to these logs.
pub record IsClosedOpening (s : Content) (b : Beginning) (o : ToldOpening) (logs : List ThreadLog) : Type 0 where
  pub left : List Session
  pub comes : HasCome mode.Turns s b o left
  pub logs_are : logs ≡ map (λ x. x.log) left

-- The script has come to this by these lines: the openings before, each with the line that reopened it, and then the
-- one that is open.
pub record HasReached (s : Content) (lines : List ScriptStep) (opening : ℕ) (sessions : List Session)
    (workers : List WorkerView)
    (answers : List TranscriptLine) : Type 0 where
  pub before : List Former
  pub begins : Beginning
  pub former : Chain (FollowsOpening mode.Turns s) (beginning s) before begins
  pub number : opening ≡ begins.opening
  pub own : List ScriptStep
  pub told : List TranscriptLine
  pub goes : Goes s begins own told sessions workers
  pub lines_are : lines ≡ flat_map (λ f. f.opening.steps ++ step.Reopen f.line ∷ []) before ++ own
  pub answers_are : answers ≡ flat_map (λ f. f.opening.answers ++ Reopened f.line ∷ []) before ++ told
  pub ones : All (λ f. NoneReopens f.opening.steps) before × NoneReopens own
