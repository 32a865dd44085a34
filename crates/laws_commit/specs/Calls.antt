-- The calls that use a log: a commit of several branches, and a resolve.
use Rattle.std.specs.Prelude.{◌≡◌, ℕ, List, length}
use Rattle.xa_desk.specs.LedgerViews.{LedgerView}
use Rattle.xa_desk.specs.DeskViews.{DeskView, ledger}
use Rattle.xa_desk.specs.Growth.{HaveGrown}
use Rattle.xa_switch.specs.Settled.{Settling, IsSettled}
use Rattle.xa_switch.specs.Fates.{ledgers_of}
use Rattle.xa_scan.specs.Left.{ScanView}
use Rattle.xa_log.specs.Log.{LogState, Records}
use Rattle.xa_driver.specs.declared.branch.Branch.{Branch}
use Rattle.xa_driver.specs.declared.done.Done.{Done}
use Rattle.xa_driver.specs.declared.done.Ending.{Ending}
use Rattle.xa_driver.specs.declared.resolved.Outcome.{Outcome}
use Rattle.xa_driver.specs.Trace.{IsCommit}

-- A commit of several branches by a thread, finished or cut short: over this desk and this log, what it left of them,
-- and the endings that its coordinator knew.
pub record CommitCall : Type 0 where
  pub thread : ℕ
  pub branches : List Branch
  pub desk : DeskView
  pub new : List LedgerView
  pub log : LogState
  pub later : LogState
  pub endings : List Ending

-- a resolve by a thread, of what its scan has, over these lists and by these records, and what it left of the lists and
-- told
pub record ResolveCall : Type 0 where
  pub thread : ℕ
  pub scan : ScanView
  pub old : List LedgerView
  pub new : List LedgerView
  pub records : Records
  pub outcomes : List Outcome

-- the same, by their parts
abbrev pub commit_call : ℕ → List Branch → DeskView → List LedgerView → LogState → LogState → List Ending → CommitCall
commit_call t bs desk new log later endings =
    record { thread = t; branches = bs; desk = desk; new = new; log = log; later = later; endings = endings }

abbrev pub resolve_call : ℕ → ScanView → List LedgerView → List LedgerView → List Outcome → Records → ResolveCall
resolve_call t scan old new outcomes records =
    record { thread = t; scan = scan; old = old; new = new; records = records; outcomes = outcomes }

-- the commit, whose log turns out to have this after it
abbrev pub turned_out : CommitCall → LogState → CommitCall
turned_out c later = record c { later = later }

-- what the commit's desk had sent to the branch's manager, and collected from it, before the commit and after it
abbrev pub before_at : CommitCall → Branch → LedgerView
before_at c b = ledger c.desk.ledgers b.m

abbrev pub after_at : CommitCall → Branch → LedgerView
after_at c b = ledger c.new b.m

-- the number that the branch's Prepare has, if it was sent
abbrev pub prepare_at : CommitCall → Branch → ℕ
prepare_at c b = length (before_at c b).sent

-- the commit came to its end, and reported `done`
pub record IsFinished (c : CommitCall) (done : Done) : Type 0 where
  pub made : IsCommit c.branches c.desk c.new c.log c.later done
  pub told : c.endings ≡ done.endings.items

-- it came to its end
abbrev pub HasFinished : CommitCall → Type 0
HasFinished c = (done : Done) × IsFinished c done

-- It came to its end by a thread of the settled opening, whose lists have grown since.
pub record IsFinishedIn (s : Settling) (c : CommitCall) (done : Done) : Type 0 where
  pub settled : IsSettled s
  pub finished : IsFinished c done
  pub open finished use *
  pub grown : HaveGrown c.new (ledgers_of s c.thread)
