-- What a commit of several branches adds to a desk's lists and to the log.
use Rattle.std.specs.Prelude.{◌≡◌, ℕ, ◌+◌, ◌<◌, ◌≤◌, Bool, true, false, not, ◌==◌, ◌&&◌, ◌||◌, Option, None, Some, List}
use Rattle.std.specs.Prelude.{[], ◌∷◌, length}
use Rattle.std.specs.List.{list_any}
use Rattle.xa_base.specs.declared.limits.TheConstants.{MOST_MANAGERS}
use Rattle.xa_words.specs.Tran.{TranName, tran_of}
use Rattle.xa_words.specs.declared.code.Code.{Code}
use Rattle.xa_words.specs.declared.request.Op.TheVariants.{Prepare}
use Rattle.xa_desk.specs.LedgerViews.{LedgerView}
use Rattle.xa_desk.specs.DeskViews.{DeskView, IsKnown, ledger, outstanding}
use Rattle.xa_driver.specs.declared.branch.Branch.{Branch}
use Rattle.xa_driver.specs.declared.done.Done.{Done}
use Rattle.xa_driver.specs.declared.done.Ending.{Ending}
use Rattle.xa_driver.specs.Decision.{decides_commit, has_yes, yes_of}
use Rattle.xa_driver.specs.Course.{AtBranch}
use Rattle.xa_log.specs.Log.{LogState, record_of, with_record, with_failure}
use Rattle.xa_driver.specs.Asks.{asked}
use Rattle.xa_driver.specs.Resolving.{AsksLedger}
use Rattle.xa_calls.specs.Scans.{Asking}

-- the ledger after the Prepare
abbrev pub voted : Branch → Code → LedgerView → LedgerView
voted b vote a = asked a (Some (Prepare b.xid)) (Some vote)

-- branch by branch, with its vote, its second code and its ending
abbrev pub EachBranch : (Branch → Code → Option Code → Ending → Type 0) → List Branch → List Code → List (Option Code)
    → List Ending → Type 0
EachBranch P [] [] [] [] = Unit {0}
EachBranch P (b ∷ bs) (v ∷ vs) (s ∷ ss) (e ∷ es) = P b v s e × EachBranch P bs vs ss es
EachBranch P bs vs ss es = ⊥

-- one of the branches is at the manager
abbrev pub has_branch_at : List Branch → ℕ → Bool
has_branch_at bs m = list_any (λ b. b.m == m) bs

-- the transaction that the branches belong to
abbrev pub IsTranOf : List Branch → TranName → Type 0
IsTranOf [] t = Unit {0}
IsTranOf (b ∷ bs) t = (tran_of b.xid ≡ t) × IsTranOf bs t

-- each branch is at a manager after those before it
abbrev pub AreBranchesRising : ℕ → List Branch → Type 0
AreBranchesRising lo [] = Unit {0}
AreBranchesRising lo (b ∷ bs) = (lo < b.m) × AreBranchesRising b.m bs

-- the manager is known, and the plan has room for three requests to it
pub record HasRoom (at : List LedgerView) (m : ℕ) : Type 0 where
  pub known : IsKnown at m
  pub room : length (ledger at m).sent + 3 ≤ (ledger at m).plan

-- so for each branch
abbrev pub HaveRoom : List LedgerView → List Branch → Type 0
HaveRoom at [] = Unit {0}
HaveRoom at (b ∷ bs) = HasRoom at b.m × HaveRoom at bs

-- when the branches may be asked to prepare
pub record MayPrepare (d : DeskView) (bs : List Branch) : Type 0 where
  pub some : 1 ≤ length bs
  pub most : length bs ≤ MOST_MANAGERS
  pub rising : AreBranchesRising 0 bs
  pub room : HaveRoom d.ledgers bs
  pub free : outstanding d.ledgers + length bs ≤ d.handles
  pub tran : TranName
  pub one : IsTranOf bs tran

-- when they may be committed
pub record MayCommit (d : DeskView) (log : LogState) (bs : List Branch) : Type 0 where
  pub prepare : MayPrepare d bs
  pub open prepare use *
  pub absent : record_of log tran ≡ None

-- the votes want a record: they decide commit, and one is yes
abbrev pub wants_record : List Code → Bool
wants_record votes = decides_commit votes && has_yes votes

-- What becomes of the log. Where the votes want it, a record with the yes managers is appended, or that fails; else
-- nothing is appended.
pub data Logs (tran : TranName) (yes : List Bool) (votes : List Code) (logged : Bool)
    (old new : LogState) : Type 0 where
  appended : wants_record votes ≡ true → logged ≡ true → new ≡ with_record old tran yes
      → Logs tran yes votes logged old new
  failed : wants_record votes ≡ true → logged ≡ false → new ≡ with_failure old → Logs tran yes votes logged old new
  unwanted : wants_record votes ≡ false → logged ≡ false → new ≡ old → Logs tran yes votes logged old new

-- What a decision does to the log itself, by what an append does to one: where the votes want a record it is appended
-- once, and `logged` tells whether the log took it; else the log is as it was.
pub record AppendsOnce {L : Type 0} (appends : TranName → List Bool → Bool → L → L → Type 0) (tran : TranName)
    (yes : List Bool) (votes : List Code) (logged : Bool) (old new : L) : Type 0 where
  pub once : wants_record votes ≡ true → appends tran yes logged old new
  pub never : wants_record votes ≡ false → new ≡ old

-- An append of the record has an unknown end: the votes want one, and what the log has isn't known any more.
pub record IsUnknown {L : Type 0} (knows : L → Type 0) (loses : TranName → List Bool → L → L → Type 0) (tran : TranName)
    (yes : List Bool) (votes : List Code) (old new : L) : Type 0 where
  pub wanted : wants_record votes ≡ true
  pub unknown : knows new → ⊥
  pub lost : loses tran yes old new

-- the votes decide commit, and no append failed
abbrev pub decision_of : List Code → Bool → Bool
decision_of votes logged = decides_commit votes && (not (has_yes votes) || logged)

-- It was decided by the votes, and a record was logged where they want one and the log took it.
pub record IsDecidedBy (tran : TranName) (bs : List Branch) (log later : LogState) (votes : List Code)
    (commit logged : Bool) : Type 0 where
  pub decision : commit ≡ decision_of votes logged
  pub logs : Logs tran (yes_of bs votes) votes logged log later

-- What a commit of the branches did, over states of each manager: at each branch what that branch wants, and at no
-- other manager anything.
pub record Commits {D : Type 0} (asking : Asking D) (tran : TranName) (bs : List Branch) (old new : ℕ → D)
    (log log' : LogState) (d : Done) : Type 0 where
  pub seconds : List (Option Code)
  pub each : EachBranch (λ b v s e. AtBranch asking d.commit b v s e (old b.m) (new b.m)) bs d.votes.items seconds
      d.endings.items
  pub others : (m : ℕ) → 1 ≤ m → has_branch_at bs m ≡ false → new m ≡ old m
  pub decided : IsDecidedBy tran bs log log' d.votes.items d.commit d.logged
  pub open decided use *

-- What a commit of the branches left is its trace: its course over the desk's ledgers, one for each manager.
pub record IsTraceOfCommit (tran : TranName) (bs : List Branch) (old new : List LedgerView) (log log' : LogState)
    (d : Done) : Type 0 where
  pub course : Commits AsksLedger tran bs (ledger old) (ledger new) log log' d
  pub managers : length new ≡ length old

-- A commit of the branches was made: it might be, and the desk's lists, the log and what it told grew by its trace.
pub record IsCommit (bs : List Branch) (desk : DeskView) (new : List LedgerView) (log later : LogState)
    (d : Done) : Type 0 where
  pub may : MayCommit desk log bs
  pub trace : IsTraceOfCommit may.tran bs desk.ledgers new log later d
