-- What a commit left that was cut short: its coordinator died at some point of it, or let it go.
use Rattle.std.specs.Prelude.{◌≡◌, ◌≢◌, ℕ, ◌≤◌, Bool, true, false, ◌&&◌, ◌==◌, if◌then◌else◌, Option, None, Some}
use Rattle.std.specs.Prelude.{is_some, unwrap_or, List, [], ◌∷◌, ◌++◌, length}
use Rattle.std.specs.List.{All}
use Rattle.xa_base.specs.Lists.{Begins}
use Rattle.xa_words.specs.Xid.{XidName}
use Rattle.xa_words.specs.Tran.{TranName}
use Rattle.xa_words.specs.declared.code.Code.{Code}
use Rattle.xa_words.specs.declared.request.Op.{Op}
use Rattle.xa_words.specs.declared.request.Op.TheVariants.{Prepare, Rollback}
use Rattle.xa_tables.specs.Prepared.{names}
use Rattle.xa_desk.specs.LedgerViews.{LedgerView}
use Rattle.xa_desk.specs.DeskViews.{ledger}
use Rattle.xa_driver.specs.declared.branch.Branch.{Branch}
use Rattle.xa_driver.specs.declared.done.CommitOutcome.{CommitOutcome}
use Rattle.xa_driver.specs.declared.done.CommitOutcome.TheVariants as outcome
use Rattle.xa_driver.specs.declared.done.Ending.{Ending}
use Rattle.xa_driver.specs.declared.done.Ending.TheVariants.{InDoubt}
use Rattle.xa_driver.specs.Commits.{HasSentNone, NoCommitWasSent, is_commit}
use Rattle.xa_driver.specs.Decision.{yes_of}
use Rattle.xa_driver.specs.Course.{VotesThen}
use Rattle.xa_driver.specs.Endings.{third_op, ending_of}
use Rattle.xa_driver.specs.Outcomes.{endings_known}
use Rattle.xa_driver.specs.Resolving.{AsksLedger}
use Rattle.xa_log.specs.Log.{IsEither, LogState, record_of}
use Rattle.xa_driver.specs.Asks.{AskTrace, IsBegun}
use Rattle.xa_driver.specs.Trace.{EachBranch, IsDecidedBy, MayCommit}
use Rattle.laws_commit.specs.Calls.{CommitCall, after_at, before_at}

-- ---- between the requests of one branch

-- It sent more, all of which is so, and collected more.
pub record DidOnly (P : Op → Type 0) (a a' : LedgerView) : Type 0 where
  pub more : List Op
  pub sent : a'.sent ≡ a.sent ++ more
  pub all : All P more
  pub collected : Begins a.collected a'.collected

-- What else its thread did at the branch's manager: it sent more, of which nothing names the branch, and collected
-- more.
abbrev pub DidOther : XidName → LedgerView → LedgerView → Type 0
DidOther x = DidOnly (λ op. names x op ≡ false)

-- Other things were done, and then this.
pub record AfterOther (x : XidName) (this : LedgerView → LedgerView → Type 0) (a a' : LedgerView) : Type 0 where
  -- as its list was between the two
  pub start : LedgerView
  pub between : DidOther x a start
  pub last : this start a'

-- ---- one branch: a prefix of its requests

-- It was asked to prepare, or not; other things were done after that.
pub record IsAsked (b : Branch) (a a' : LedgerView) : Type 0 where
  pub left : LedgerView
  pub asks : IsBegun (Some (Prepare b.xid)) a left
  pub after : DidOther b.xid left a'

-- Its vote was collected, and it was told the decision, or not, after other things.
abbrev pub IsTold : Bool → Branch → Code → LedgerView → LedgerView → Type 0
IsTold commit b = VotesThen AsksLedger (λ op. AfterOther b.xid (IsBegun op)) commit b

-- Its vote and its second code were collected, by both of which it ends, and it was told to forget a decision of its
-- own, or not; there were other things before each of the two.
pub record IsEnded (commit : Bool) (b : Branch) (vote : Code) (second : Option Code) (ending : Ending)
    (a a' : LedgerView) : Type 0 where
  pub decided : LedgerView
  pub obeyed : VotesThen AsksLedger (λ op. AfterOther b.xid (AskTrace op second)) commit b vote a decided
  pub forgets : AfterOther b.xid (IsBegun (third_op b.xid second)) decided a'
  pub ends : ending ≡ ending_of commit vote second

-- branch by branch, with its vote
abbrev pub EachVote : (Branch → Code → Type 0) → List Branch → List Code → Type 0
EachVote P [] [] = Unit {0}
EachVote P (b ∷ bs) (v ∷ vs) = P b v × EachVote P bs vs
EachVote P bs vs = ⊥

-- ---- all branches

-- All had voted, and this was decided by their votes, and the log's taking of the record.
pub record DecisionOf (tran : TranName) (c : CommitCall) : Type 0 where
  pub votes : List Code
  pub commit : Bool
  pub logged : Bool
  pub decided : IsDecidedBy tran c.branches c.log c.later votes commit logged
  pub open decided use *

-- How far it came, and which endings its coordinator knew. It was asking for votes: nothing was decided, and the log is
-- as it was. It was telling the decision. Or all were told, and it had some forget what they had decided themselves.
pub data CameSoFar (tran : TranName) (c : CommitCall) : Type 0 where
  asking : c.later ≡ c.log → c.endings ≡ [] → All (λ b. IsAsked b (before_at c b) (after_at c b)) c.branches
      → CameSoFar tran c
  telling : (d : DecisionOf tran c) → c.endings ≡ []
      → EachVote (λ b v. IsTold d.commit b v (before_at c b) (after_at c b)) c.branches d.votes → CameSoFar tran c
  forgetting : (d : DecisionOf tran c) (seconds : List (Option Code))
      → EachBranch (λ b v s e. IsEnded d.commit b v s e (before_at c b) (after_at c b)) c.branches d.votes seconds
      c.endings
      → CameSoFar tran c

-- A commit of the branches was begun, and cut short: it might be made, and the branches' managers and the log have what
-- it came to. The log is as the decision found it. What else its thread did meanwhile is anything that names none of
-- the branches at its manager.
pub record IsCut (c : CommitCall) : Type 0 where
  pub may : MayCommit c.desk c.log c.branches
  pub far : CameSoFar may.tran c
  pub managers : length c.new ≡ length c.desk.ledgers

-- ---- what else may be done between two stages

-- What was done leaves the branches: at the manager of each nothing that was sent names it.
pub record LeavesBranches (bs : List Branch) (old new : List LedgerView) : Type 0 where
  pub each : All (λ b. DidOther b.xid (ledger old b.m) (ledger new b.m)) bs
  pub managers : length new ≡ length old

-- no branch of the first is one of the second
abbrev pub AreOthers : List Branch → List Branch → Type 0
AreOthers bs cs = All (λ b. All (λ c. c.xid ≢ b.xid) cs) bs

-- ---- what a commit came to

-- the endings that are known of it then
abbrev pub endings_of : CommitOutcome → List Ending
endings_of (outcome.Decided done) = done.endings.items
endings_of (outcome.Undecided votes) = []
endings_of (outcome.Died at known) = endings_known known

-- What the log turns out to have after it: what the commit left; or where nobody knew whether it has the record, what
-- it had before, with that record or without it.
abbrev pub TurnsOut : TranName → List Branch → LogState → LogState → LogState → CommitOutcome → Type 0
TurnsOut tran bs log later found (outcome.Decided done) = found ≡ later
TurnsOut tran bs log later found (outcome.Undecided votes) = IsEither log found tran (yes_of bs votes.items)
TurnsOut tran bs log later found (outcome.Died at known) = found ≡ later

-- ---- what its coordinator knew

-- the ending of the branch at manager m
abbrev pub ending_at : ℕ → List Branch → List Ending → Option Ending
ending_at m [] es = None
ending_at m (b ∷ bs) [] = None
ending_at m (b ∷ bs) (e ∷ es) = if b.m == m then Some e else ending_at m bs es

-- what its coordinator knew of the branch at manager m: its ending, or that it is in doubt
abbrev pub known_at : ℕ → List Branch → List Ending → Ending
known_at m bs es = unwrap_or (ending_at m bs es) InDoubt

-- ---- what was sent, and what the log has

-- the log has a record of the transaction: it was decided to commit
abbrev pub is_recorded : LogState → TranName → Bool
is_recorded log t = is_some (record_of log t)

-- a Rollback
abbrev pub is_rollback : Op → Bool
is_rollback (Rollback x) = true
is_rollback op = false

-- a Commit of the branch, or a heuristic one
abbrev pub is_commit_of : XidName → Op → Bool
is_commit_of x op = names x op && is_commit op

-- a Rollback of the branch
abbrev pub is_rollback_of : XidName → Op → Bool
is_rollback_of x op = names x op && is_rollback op

-- to no branch's manager a Commit of the branch was sent
abbrev pub NoneWasToldToCommit : CommitCall → Type 0
NoneWasToldToCommit c = All (λ b. HasSentNone (is_commit_of b.xid) (before_at c b) (after_at c b)) c.branches

-- to none a Rollback of it
abbrev pub NoneWasToldToRollBack : CommitCall → Type 0
NoneWasToldToRollBack c = All (λ b. HasSentNone (is_rollback_of b.xid) (before_at c b) (after_at c b)) c.branches

-- By whether there is a record: without one no Commit was sent to any manager, and with one no Rollback.
pub record GoesByTheRecord (is_there : Bool) (old new : List LedgerView) : Type 0 where
  pub unrecorded : is_there ≡ false → NoCommitWasSent old new
  pub recorded : is_there ≡ true → (m : ℕ) → 1 ≤ m → HasSentNone is_rollback (ledger old m) (ledger new m)
