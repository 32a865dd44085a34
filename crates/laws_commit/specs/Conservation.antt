-- What transfers do to the worth of all accounts: nothing, but for what branches in doubt hold.
use Rattle.std.specs.Prelude.{◌≡◌, ℕ, ◌≤◌, ℤ, pos, ◌+ℤ◌, ◌&&◌, ◌==◌, if◌then◌else◌, List, [], ◌∷◌, length}
use Rattle.xa_base.specs.Sums.{total}
use Rattle.xa_tables.specs.Managers.{opening}
use Rattle.xa_tables.specs.Histories.{History}
use Rattle.xa_tables.specs.Worth.{added_by_now}
use Rattle.xa_desk.specs.LedgerViews.{LedgerView}
use Rattle.xa_desk.specs.DeskViews.{DeskView, ledger}
use Rattle.xa_desk.specs.Growth.{HaveGrown}
use Rattle.xa_switch.specs.declared.plan.Plan.{Plan}
use Rattle.xa_switch.specs.Settled.{Settling}
use Rattle.xa_switch.specs.Fates.{history}
use Rattle.xa_switch.specs.Worth.{accounts_of}
use Rattle.xa_driver.specs.declared.branch.Branch.{Branch}
use Rattle.xa_driver.specs.declared.done.Done.{Done}
use Rattle.xa_driver.specs.declared.done.Ending.{Ending}
use Rattle.xa_log.specs.Log.{LogState}
use Rattle.xa_driver.specs.Trace.{IsCommit}
use Rattle.xa_driver.specs.Commits.{NoCommitWasSent}
use Rattle.laws_commit.specs.Outcomes.{AreLeftAlone, has_committed, ends_in_doubt}
use Rattle.xa_driver.specs.Deaths.{sent_so_far}

-- the requests of a history before thread t's of number n
abbrev pub taken_before : ℕ → ℕ → History → History
taken_before t n [] = []
taken_before t n (r ∷ h) = if (r.thread == t) && (r.number == n) then [] else r ∷ taken_before t n h

-- what a branch of thread t has added by the place of its Prepare, which is the next request to its manager after what
-- `old` has
abbrev pub added_before : Plan → Settling → ℕ → List LedgerView → Branch → ℤ
added_before p s t old b =
    added_by_now b.xid (pos 0) (taken_before t (length (ledger old b.m).sent) (history s b.m))
    (opening (accounts_of p b.m))

-- what all branches of a transaction have added by then
abbrev pub added_by_all : Plan → Settling → ℕ → List LedgerView → List Branch → ℤ
added_by_all p s t old bs = total (added_before p s t old) bs

-- of branches with their endings, what those in doubt count for together
abbrev pub total_in_doubt : (Branch → ℤ) → List Branch → List Ending → ℤ
total_in_doubt f [] es = pos 0
total_in_doubt f (b ∷ bs) [] = pos 0
total_in_doubt f (b ∷ bs) (e ∷ es) = (if ends_in_doubt e then f b else pos 0) +ℤ total_in_doubt f bs es

-- What is missing at the end of a transaction that was committed: what its branches in doubt hold. Where no branch was
-- committed nothing is.
abbrev pub held_in_doubt : Plan → Settling → ℕ → List LedgerView → List Branch → Done → ℤ
held_in_doubt p s t old bs d =
    if has_committed d then total_in_doubt (added_before p s t old) bs d.endings.items else pos 0

-- nothing was sent to any manager
abbrev pub NothingWasSent : List LedgerView → Type 0
NothingWasSent at = (m : ℕ) → 1 ≤ m → (ledger at m).sent ≡ []

-- Thread t made only transfers, up to where its desk has these lists: it sent no Commit but in commits of several
-- branches that nobody else names and whose additions sum to 0. Also, how much is missing of them in doubt.
pub data OnlyTransfers (p : Plan) (s : Settling) (t : ℕ) : List LedgerView → ℤ → Type 0 where
  opened : (at : List LedgerView) → NothingWasSent at → OnlyTransfers p s t at (pos 0)
  worked : (at later : List LedgerView) (doubt : ℤ) → OnlyTransfers p s t at doubt → HaveGrown at later
      → NoCommitWasSent at later → OnlyTransfers p s t later doubt
  committed : (bs : List Branch) (desk : DeskView) (new : List LedgerView) (log later : LogState) (d : Done) (doubt : ℤ)
      → OnlyTransfers p s t desk.ledgers doubt → IsCommit bs desk new log later d
      → AreLeftAlone s t bs (sent_so_far desk.ledgers) (sent_so_far new) → added_by_all p s t desk.ledgers bs ≡ pos 0
      → OnlyTransfers p s t new (doubt +ℤ held_in_doubt p s t desk.ledgers bs d)
