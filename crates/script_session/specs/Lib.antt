pub mod ManagerCalls
pub mod Logs
pub mod Committing
pub mod Resolving
pub mod Sessions
-- The words of this crate, by its name.
pub use ManagerCalls.{CallAnswers, HasAnswered, HasCollected, HasListed, ShowsListed, shown_completion}
pub use ManagerCalls.{manager_call_waits}
pub use Logs.{ThreadLog, log_state, thread_log}
pub use Committing.{CanCommit, CommitsAll, CommitsTo, branch_of_commit, branches_of, named}
pub use Resolving.{CanResolve, ResolvesLeft}
pub use Sessions.{TaskDoes, Executes, HasDone, MayWait, keeps_of, log_of, losing_of, new_session, new_sessions}
pub use Sessions.{session_of, sessions_again, told_of}
pub use declared.session.Session.{Session}
