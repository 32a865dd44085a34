pub mod InTurns
pub mod ScriptThreads
pub mod InThreads
pub mod Outcome
pub mod TurnsSoFar
pub mod Program
-- The words of this crate, by its name.
pub use InTurns.{Closing, HasCalled, HasEndedDesk, HasMadeSteps, HasStepped, HasTurned, HaveEnded, Stage, DoesStep}
pub use InTurns.{TurnsAt, closing_of, stage_of, turns_at}
pub use ScriptThreads.{IsNewThread, ThreadWorks}
pub use InThreads.{HasDoneItsTasks, lines_of_thread}
pub use Outcome.{FollowsOpening, HasCome, IsOutcome, IsScriptRun, Runs, Writes}
pub use TurnsSoFar.{Goes, HasReached, IsClosedOpening, IsOpen}
pub use Program.{AppendsSome, FailsBy, IsFaulty, IsJudged, ShowsRun, has_threads, fault_line_text, status_of, text_of}
pub use declared.entry.Fault.{Fault}
pub use declared.entry.Fault.TheVariants.{NoMemory, Run, Script, Usage}
pub use declared.in_turns.Runner.{Runner}
pub use declared.script_thread.ScriptThread.{ScriptThread}
