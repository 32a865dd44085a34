-- What a commit of several branches does to its thread, and what it answers.
use Rattle.std.specs.Prelude.{◌≡◌, ℕ, pos, false, List, decimal, length, map}
use Rattle.xa_words.specs.Tran.{TranName}
use Rattle.xa_words.specs.ManagerSet.{managers_of_set}
use Rattle.xa_desk.specs.DeskViews.{ledger}
use Rattle.xa_driver.specs.declared.branch.Branch.{Branch}
use Rattle.xa_driver.specs.declared.done.CommitOutcome.{CommitOutcome}
use Rattle.xa_driver.specs.Deaths.{PutsLedger}
use Rattle.xa_driver.specs.Outcomes.{ComesTo, LeavesTheDesk, TellsTheLog}
use Rattle.xa_driver.specs.Resolving.{AsksLedger}
use Rattle.xa_driver.specs.Trace.{MayCommit}
use Rattle.script_grammar.specs.declared.step.CommitAll.{CommitAll}
use Rattle.script_transcript.specs.declared.answer.Answer.{Answer}
use Rattle.script_transcript.specs.declared.answer.Answer.TheVariants as answer
use Rattle.script_session.specs.declared.session.Session.{Session}
use Rattle.script_session.specs.Logs.{log_state, thread_log}

-- The transaction that a commit names, of format 1.
abbrev pub named : CommitAll TranName → TranName
named c = record { format = pos 1; gtrid = c.tran.gtrid }

-- Its branch at manager m: the qualifier is the manager's number.
abbrev pub branch_of_commit : CommitAll TranName → ℕ → Branch
branch_of_commit c m = record { m = m; xid = record { format = pos 1; gtrid = c.tran.gtrid; bqual = decimal m } }

-- The branches of a commit, by rising manager.
abbrev pub branches_of : CommitAll TranName → List Branch
branches_of c = map (branch_of_commit c) (managers_of_set c.managers)

-- The thread's log is known, and its branches may be committed.
pub record CanCommit (c : CommitAll TranName) (x : Session) : Type 0 where
  pub known : x.log.is_lost ≡ false
  pub may : MayCommit x.desk (log_state x.log) (branches_of c)

-- What a commit of several branches did to its thread's desk and log, and what it came to.
pub record CommitsTo (c : CommitAll TranName) (old new : Session) (o : CommitOutcome) : Type 0 where
  pub can : CanCommit c old
  pub comes : ComesTo AsksLedger PutsLedger c.death (named c) (branches_of c) (ledger old.desk.ledgers)
      (ledger new.desk.ledgers) (log_state old.log) (log_state new.log) o
  pub log : TellsTheLog thread_log (named c) (branches_of c) old.log new.log o
  pub desk : LeavesTheDesk (branches_of c) old.desk new.desk o
  pub managers : length new.desk.ledgers ≡ length old.desk.ledgers
  pub scan : new.scan ≡ old.scan

-- What it answers: where the branches may not be committed nothing is done.
pub data CommitsAll (c : CommitAll TranName) (old new : Session) (a : Answer) : Type 0 where
  refused : (CanCommit c old → ⊥) → a ≡ answer.Refused → new ≡ old → CommitsAll c old new a
  commits : (o : CommitOutcome) → a ≡ answer.Commit o → CommitsTo c old new o → CommitsAll c old new a
