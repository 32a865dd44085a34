-- What was sent since, and which branches it names.
use Rattle.std.specs.Prelude.{◌≡◌, ℕ, ◌≤◌, true, false, List, ◌++◌}
use Rattle.std.specs.List.{All, list_any}
use Rattle.xa_base.specs.Lists.{Begins}
use Rattle.xa_words.specs.Xid.{XidName, xid_eq}
use Rattle.xa_words.specs.declared.request.Op.{Op}
use Rattle.xa_words.specs.declared.request.Op.TheVariants.{OpenRm}
use Rattle.xa_tables.specs.Prepared.{names}
use Rattle.xa_desk.specs.LedgerViews.{LedgerView}
use Rattle.xa_desk.specs.DeskViews.{ledger}
use Rattle.xa_driver.specs.declared.branch.Branch.{Branch}
use Rattle.xa_driver.specs.Commits.{is_commit}

-- since then only such requests were sent to the manager, and what was collected stays
pub record HasSent (P : Op → Type 0) (a a' : LedgerView) : Type 0 where
  pub more : List Op
  pub sent : a'.sent ≡ a.sent ++ more
  pub each : All P more
  pub collected : Begins a.collected a'.collected

-- so for every manager
abbrev pub HaveSent : (Op → Type 0) → List LedgerView → List LedgerView → Type 0
HaveSent P old new = (m : ℕ) → 1 ≤ m → HasSent P (ledger old m) (ledger new m)

-- the request opens a manager
abbrev pub IsOpenRm : Op → Type 0
IsOpenRm op = op ≡ OpenRm

-- the request names no other branch than one of these
abbrev pub NamesOnly : List Branch → Op → Type 0
NamesOnly bs op = (x : XidName) → names x op ≡ true → list_any (λ b. xid_eq b.xid x) bs ≡ true

-- and it is no Commit
pub record IsFor (bs : List Branch) (op : Op) : Type 0 where
  pub uncommitting : is_commit op ≡ false
  pub named : NamesOnly bs op
