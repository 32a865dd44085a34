-- What becomes of the branches of a global transaction: presumed abort.
use Rattle.std.specs.Prelude.{◌≡◌, ℕ, ◌+◌, ◌≤◌, ◌<◌, Bool, true, false, not, ◌&&◌, ◌||◌, Option, None, Some, List, []}
use Rattle.std.specs.Prelude.{◌∷◌, ◌++◌}
use Rattle.std.specs.List.{All, list_any}
use Rattle.xa_words.specs.Xid.{XidName}
use Rattle.xa_words.specs.Tran.{TranName}
use Rattle.xa_words.specs.declared.code.Code.{Code}
use Rattle.xa_words.specs.declared.code.Code.TheVariants.{Done as OK, HeurCom, HeurRb}
use Rattle.xa_words.specs.declared.request.Request.{Request}
use Rattle.xa_tables.specs.declared.state.HeuristicDecision.{HeuristicDecision}
use Rattle.xa_tables.specs.ManagerTables.{Tables}
use Rattle.xa_tables.specs.Next.{next}
use Rattle.xa_tables.specs.Histories as history
use Rattle.xa_tables.specs.Histories.{History, Fate, IsFateOf, tables_after, decided_fate}
use Rattle.xa_tables.specs.Prepared.{names, is_heur, has_shut}
use Rattle.xa_desk.specs.LedgerViews.{LedgerView}
use Rattle.xa_switch.specs.Settled.{Settling}
use Rattle.xa_switch.specs.Fates.{IsOpenedWith, history as history_of, settled_fate}
use Rattle.xa_driver.specs.declared.branch.Branch.{Branch}
use Rattle.xa_driver.specs.declared.done.Done.{Done}
use Rattle.xa_driver.specs.declared.done.Ending.{Ending}
use Rattle.xa_driver.specs.declared.done.Ending.TheVariants.{Committed, ReadOnly, RolledBack, InDoubt, Heuristic, Left}
use Rattle.xa_driver.specs.Decision.{is_yes, is_no, yes_of}
use Rattle.xa_log.specs.Log.{LogState, record_of}
use Rattle.xa_driver.specs.Trace.{wants_record}
use Rattle.xa_driver.specs.Commits.{NoCommitWasSent}
use Rattle.xa_driver.specs.Deaths.{sent_so_far}
use Rattle.laws_commit.specs.Calls.{CommitCall}

-- ---- one outcome for all branches

-- the ending, as a test
abbrev pub ends_committed : Ending → Bool
ends_committed Committed = true
ends_committed e = false

-- the ending, as a test
abbrev pub ends_rolled_back : Ending → Bool
ends_rolled_back RolledBack = true
ends_rolled_back e = false

-- the ending, as a test
abbrev pub ends_in_doubt : Ending → Bool
ends_in_doubt InDoubt = true
ends_in_doubt e = false

-- the ending, as a test
abbrev pub ends_heuristic : Ending → Bool
ends_heuristic (Heuristic c) = true
ends_heuristic e = false

-- the ending, as a test
abbrev pub ends_left : Ending → Bool
ends_left (Left c) = true
ends_left e = false

-- the ending, as a test
abbrev pub ends_read_only : Ending → Bool
ends_read_only ReadOnly = true
ends_read_only e = false

-- some branch was committed
abbrev pub has_committed : Done → Bool
has_committed d = list_any ends_committed d.endings.items

-- some branch was rolled back
abbrev pub has_rolled_back : Done → Bool
has_rolled_back d = list_any ends_rolled_back d.endings.items

-- some branch voted against
abbrev pub has_vote_against : Done → Bool
has_vote_against d = list_any is_no d.votes.items

-- the votes want a record, and the log didn't take it
abbrev pub append_failed : Done → Bool
append_failed d = wants_record d.votes.items && not d.logged

-- a branch voted against or was rolled back, or the log didn't take the record
abbrev pub was_refused : Done → Bool
was_refused d = has_vote_against d || (has_rolled_back d || append_failed d)

-- the transaction is committed: no branch voted against and none was rolled back, and the log has the record, with
-- exactly the managers that voted to commit
pub record IsCommittedTransaction (tran : TranName) (bs : List Branch) (later : LogState) (d : Done) : Type 0 where
  pub unopposed : has_vote_against d ≡ false
  pub recorded : record_of later tran ≡ Some (yes_of bs d.votes.items)
  pub kept : has_rolled_back d ≡ false

-- the transaction is aborted: no branch is committed, the log has nothing of it, and no Commit was sent to any manager
pub record IsAbortedTransaction (tran : TranName) (old new : List LedgerView) (later : LogState)
    (d : Done) : Type 0 where
  pub uncommitted : has_committed d ≡ false
  pub unrecorded : record_of later tran ≡ None
  pub unsent : NoCommitWasSent old new

-- ---- in a settled opening

-- a request of thread t, with a number from `first` to below `last`
pub record IsBetween (t first last : ℕ) (r : Request) : Type 0 where
  pub thread : r.thread ≡ t
  pub from : first ≤ r.number
  pub below : r.number < last

-- After thread t's request of number `first` no request names the branch but those of t itself, up to before number
-- `last`.
abbrev pub OnlyTheseName : XidName → ℕ → ℕ → ℕ → History → Type 0
OnlyTheseName x t first last h =
    (before after : History) (r : Request) → h ≡ before ++ r ∷ after → r.thread ≡ t → r.number ≡ first
    → All (λ q. names x q.op ≡ true → IsBetween t first last q) after

-- the same, but heuristic decisions may name it, whose ever they are
abbrev pub OnlyTheseOrDecisionsName : XidName → ℕ → ℕ → ℕ → History → Type 0
OnlyTheseOrDecisionsName x t first last h =
    (before after : History) (r : Request) → h ≡ before ++ r ∷ after → r.thread ≡ t → r.number ≡ first
    → All (λ q. names x q.op ≡ true → is_heur q.op ≡ false → IsBetween t first last q) after

-- Thread t had sent each manager `from` requests before a commit, and `upto` after it: in each branch's history nobody
-- but the commit names the branch from its Prepare on.
pub record AreLeftAlone (s : Settling) (t : ℕ) (bs : List Branch) (from upto : ℕ → ℕ) : Type 0 where
  pub each : All (λ b. OnlyTheseName b.xid t (from b.m) (upto b.m) (history_of s b.m)) bs

-- the same, but for heuristic decisions, whose ever they are
pub record AreLeftOrDecided (s : Settling) (t : ℕ) (bs : List Branch) (from upto : ℕ → ℕ) : Type 0 where
  pub each : All (λ b. OnlyTheseOrDecisionsName b.xid t (from b.m) (upto b.m) (history_of s b.m)) bs

-- so of a commit, by what its thread had sent before it and after it
abbrev pub IsLeftAlone : Settling → CommitCall → Type 0
IsLeftAlone s c = AreLeftAlone s c.thread c.branches (sent_so_far c.desk.ledgers) (sent_so_far c.new)

abbrev pub IsLeftOrDecided : Settling → CommitCall → Type 0
IsLeftOrDecided s c = AreLeftOrDecided s c.thread c.branches (sent_so_far c.desk.ledgers) (sent_so_far c.new)

-- a Shut stands before thread t's request of this number
pub record IsAfterShut (t n : ℕ) (h : History) : Type 0 where
  pub before : History
  pub after : History
  pub request : Request
  pub place : h ≡ before ++ request ∷ after
  pub thread : request.thread ≡ t
  pub number : request.number ≡ n
  pub shut : has_shut before ≡ true

-- A heuristic decision of the branch was carried out after thread t's request of number n, in the history of a manager
-- that was opened with the tables T.
pub record IsDecidedAfter (x : XidName) (t n : ℕ) (T : Tables) (h : History) : Type 0 where
  pub before : History
  pub request : Request
  pub between : History
  pub decision : Request
  pub after : History
  pub place : h ≡ before ++ request ∷ (between ++ decision ∷ after)
  pub thread : request.thread ≡ t
  pub number : request.number ≡ n
  pub named : names x decision.op ≡ true
  pub decides : is_heur decision.op ≡ true
  pub carried_out : (next decision.thread decision.op (tables_after (before ++ request ∷ between) T)).1 ≡ OK

-- so in a settled opening
abbrev pub WasDecidedAfter : Settling → Branch → ℕ → ℕ → Type 0
WasDecidedAfter s b t n = (T : Tables) → IsOpenedWith s b.m T → IsDecidedAfter b.xid t n T (history_of s b.m)

-- the fate that a heuristic decision's code tells; XA_HEURMIX and XA_HEURHAZ tell none
abbrev pub heuristic_fate : Code → Option Fate
heuristic_fate HeurCom = Some history.HeurCommitted
heuristic_fate HeurRb = Some history.HeurRolledBack
heuristic_fate c = None

-- the fate that an ending tells; what is in doubt may have been decided, and what is left has any
abbrev pub told_fate : Ending → Option Fate
told_fate Committed = Some history.Committed
told_fate ReadOnly = Some history.ReadOnly
told_fate RolledBack = Some history.RolledBack
told_fate (Heuristic c) = heuristic_fate c
told_fate InDoubt = None
told_fate (Left c) = None

-- A branch that voted to commit, whose Prepare by thread t has number n, isn't left. It is in doubt only where its
-- manager was shut before the place of its second request, and ended heuristically only where a decision of it was
-- carried out after its Prepare.
pub record KeepsItsVote (s : Settling) (t : ℕ) (b : Branch) (n : ℕ) (vote : Code) (ending : Ending) : Type 0 where
  pub reached : is_yes vote ≡ true → ends_left ending ≡ false
  pub shut : is_yes vote ≡ true → ends_in_doubt ending ≡ true → IsAfterShut t (n + 1) (history_of s b.m)
  pub decided : is_yes vote ≡ true → ends_heuristic ending ≡ true → WasDecidedAfter s b t n

-- the fate that a branch had as the opening began: the tables that its manager began with tell it
pub record WasAtFirst (s : Settling) (b : Branch) (before : Fate) : Type 0 where
  pub first : Tables
  pub opened : IsOpenedWith s b.m first
  pub fits : IsFateOf b.xid before first

-- it is in doubt, or a decision of it was carried out after its Prepare, whose fate it has
pub data IsInDoubtUnlessDecided (s : Settling) (t : ℕ) (b : Branch) (n : ℕ) (before : Fate) : Type 0 where
  undecided : settled_fate s b.m b.xid before ≡ history.InDoubt → IsInDoubtUnlessDecided s t b n before
  decided : (d : HeuristicDecision) → settled_fate s b.m b.xid before ≡ decided_fate d → WasDecidedAfter s b t n
      → IsInDoubtUnlessDecided s t b n before

-- what is told of a branch, whose Prepare by thread t has number n, became of it, whatever fate it had as the opening
-- began
pub record TellsTheFate (s : Settling) (t : ℕ) (b : Branch) (n : ℕ) (ending : Ending) : Type 0 where
  pub told : (before f : Fate) → WasAtFirst s b before → told_fate ending ≡ Some f → settled_fate s b.m b.xid before ≡ f
  pub doubt : (before : Fate) → WasAtFirst s b before → ends_in_doubt ending ≡ true
      → IsInDoubtUnlessDecided s t b n before

-- branch by branch, with its vote and its ending
abbrev pub EachOutcome : (Branch → Code → Ending → Type 0) → List Branch → List Code → List Ending → Type 0
EachOutcome P [] [] [] = Unit {0}
EachOutcome P (b ∷ bs) (v ∷ vs) (e ∷ es) = P b v e × EachOutcome P bs vs es
EachOutcome P bs vs es = ⊥

-- so for each branch of a commit, before which thread t had sent each manager so many requests
pub record KeepsTheVotes (s : Settling) (t : ℕ) (bs : List Branch) (from : ℕ → ℕ) (d : Done) : Type 0 where
  pub each : EachOutcome (λ b v e. KeepsItsVote s t b (from b.m) v e) bs d.votes.items d.endings.items

pub record TellsTheFates (s : Settling) (t : ℕ) (bs : List Branch) (from : ℕ → ℕ) (d : Done) : Type 0 where
  pub each : EachOutcome (λ b v e. TellsTheFate s t b (from b.m) e) bs d.votes.items d.endings.items
