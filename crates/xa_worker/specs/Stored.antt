-- What a crash leaves of a worker's manager, and what was sent by then.
use Rattle.std.specs.Prelude.{◌≡◌, ℕ, ◌+◌, List}
use Rattle.xa_base.specs.Lists.{Begins}
use Rattle.xa_lane.specs.Senders.{sent_at}
use Rattle.xa_tables.specs.ManagerTables.{Tables}
use Rattle.xa_tables.specs.Histories.{tables_after}
use Rattle.xa_tables.specs.Openings.{reopened}
use Rattle.xa_worker.specs.Journal.{Entry, requests, owed}
use Rattle.xa_worker.specs.Workers.{WorkerView}

-- A crash that leaves these tables leaves a beginning of the journal: they are what a reopening makes of the tables
-- after it, and all that was sent is owed by it.
pub record LeavesABeginning (w : WorkerView) (K : Tables) : Type 0 where
  pub kept : List Entry
  pub begins : Begins kept w.journal
  pub left : K ≡ reopened (tables_after (requests kept) w.first)
  pub owed : (k : ℕ) → Begins (sent_at k w.out.senders) (owed w.number (k + 1) kept)

-- the store knows of all that the manager has carried out, and whatever a crash may leave is a beginning of it that
-- owes what was sent
pub record IsStored (knows may_leave : Tables → Type 0) (w : WorkerView) : Type 0 where
  pub known : knows w.manager.tables
  pub leaves : (K : Tables) → may_leave K → LeavesABeginning w K
