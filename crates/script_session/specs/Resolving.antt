-- What a resolve does to its thread, and what it answers.
use Rattle.std.specs.Prelude.{◌≡◌, false, Vec}
use Rattle.std.specs.Global.{Global}
use Rattle.xa_desk.specs.DeskViews.{outstanding}
use Rattle.xa_driver.specs.declared.resolved.Outcome.{Outcome}
use Rattle.xa_driver.specs.Asks.{KeepsDesk}
use Rattle.xa_base.specs.declared.limits.TheConstants.{MOST_MANAGERS}
use Rattle.xa_calls.specs.Scans.{Answers}
use Rattle.xa_driver.specs.Resolving.{MayResolve, IsTraceOfResolve, ResolvesInTurn}
use Rattle.script_transcript.specs.declared.answer.Answer.{Answer}
use Rattle.script_transcript.specs.declared.answer.Answer.TheVariants as answer
use Rattle.script_session.specs.declared.session.Session.{Session}
use Rattle.script_session.specs.Logs.{log_state}

-- The thread's log is known, and there is room for what is to be asked.
pub record CanResolve (x : Session) : Type 0 where
  pub known : x.log.is_lost ≡ false
  pub may : MayResolve x.desk x.scan

-- What a resolve does to its thread's desk, and what it answers: where it can't be done nothing is; else it is the
-- trace of the coordinator, by the thread's log and of what its scans have. The log and the scans stay.
pub data ResolvesLeft (old new : Session) (a : Answer) : Type 0 where
  refused : (CanResolve old → ⊥) → a ≡ answer.Refused → new ≡ old → ResolvesLeft old new a
  resolved : (outcomes : Vec Outcome Global) → CanResolve old
      → IsTraceOfResolve old.scan (log_state old.log).records old.desk.ledgers new.desk.ledgers outcomes.items
      → new.log ≡ old.log → new.scan ≡ old.scan → KeepsDesk old.desk new.desk
      → outstanding new.desk.ledgers ≡ outstanding old.desk.ledgers
      → a ≡ answer.Resolved outcomes
      → ResolvesInTurn Answers (log_state old.log).records old.scan old.desk MOST_MANAGERS outcomes.items new.desk
      → ResolvesLeft old new a
