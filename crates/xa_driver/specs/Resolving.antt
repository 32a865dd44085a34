-- How what a reopening found left is resolved, by the records of it.
use Rattle.std.specs.Prelude.{◌≡◌, ◌≢◌, ℕ, ◌+◌, ◌*◌, ◌<◌, ◌≤◌, Bool, true, false, if◌then◌else◌, Option, None}
use Rattle.std.specs.Prelude.{Some, List, [], ◌∷◌, ◌++◌}
use Rattle.std.specs.Prelude.{length, map}
use Rattle.std.specs.List.{flat_map, range_with_len, sum_by}
use Rattle.xa_base.specs.declared.limits.TheConstants.{MOST_MANAGERS}
use Rattle.xa_base.specs.Lists.{Chain, IsUpTo}
use Rattle.xa_words.specs.Xid.{XidName}
use Rattle.xa_words.specs.ManagerSet.{is_in}
use Rattle.xa_words.specs.Tran.{tran_of}
use Rattle.xa_words.specs.declared.code.Code.{Code}
use Rattle.xa_words.specs.declared.request.Op.{Op}
use Rattle.xa_words.specs.declared.request.Op.TheVariants.{OpenRm, Commit, Rollback, Forget}
use Rattle.xa_desk.specs.LedgerViews.{LedgerView}
use Rattle.xa_desk.specs.DeskViews.{DeskView, room_at, ledger, outstanding}
use Rattle.xa_desk.specs.Kept.{AllKept}
use Rattle.xa_calls.specs.Scans.{Asking}
use Rattle.xa_scan.specs.Left.{ScanView, left_at}
use Rattle.xa_driver.specs.declared.resolved.Outcome.{Outcome}
use Rattle.xa_log.specs.Log.{Records, record_in}
use Rattle.xa_driver.specs.Asks.{AskTrace, KeepsDesk, LeavesOutstanding}
use Rattle.xa_driver.specs.Endings.{is_decided}

-- ---- what is recorded

-- these managers voted yes, and this one is among them; where there is no record, it isn't
abbrev pub is_recorded_at : Option (List Bool) → ℕ → Bool
is_recorded_at None m = false
is_recorded_at (Some set) m = is_in set m

-- the record of the branch's transaction names the manager: so the branch is to be committed
abbrev pub is_to_commit : Records → ℕ → XidName → Bool
is_to_commit records m x = is_recorded_at (record_in records (tran_of x)) m

-- ---- one branch after the other, by states of its manager

-- it is committed in two phases, or rolled back
abbrev pub outcome_op : Bool → XidName → Op
outcome_op commit x = if commit then Commit x false else Rollback x

-- nothing is asked, or this is, whatever it answers
abbrev pub AsksIf : {D : Type 0} → Bool → Asking D → Op → D → D → Type 0
AsksIf false asking op old new = new ≡ old
AsksIf true asking op old new = (c : Code) × asking old op new c

-- A branch left at manager m is resolved: it is committed where the records say so, and else rolled back; then it is
-- forgotten, if its manager keeps a decision.
pub record ResolvesBranch {D : Type 0} (asking : Asking D) (records : Records) (m : ℕ) (o : Outcome) (old new : D)
    : Type 0 where
  pub manager : o.m ≡ m
  pub decision : o.commit ≡ is_to_commit records m o.xid
  pub decided : D
  pub obeys : asking old (outcome_op o.commit o.xid) decided o.code
  pub forgets : AsksIf (is_decided o.code) asking (Forget o.xid) decided new

-- Manager m is asked to open, and then these branches are resolved, one after the other.
pub record ResolvesThese {D : Type 0} (asking : Asking D) (records : Records) (m : ℕ) (xids : List XidName)
    (outcomes : List Outcome) (old new : D) : Type 0 where
  pub opened : D
  pub code : Code
  pub opens : asking old OpenRm opened code
  pub each : Chain (ResolvesBranch asking records m) opened outcomes new
  pub xids_are : map (λ o. o.xid) outcomes ≡ xids

-- Where none is left, nothing is asked.
abbrev pub ResolvesAt : {D : Type 0} → Asking D → Records → ℕ → List XidName → List Outcome → D → D → Type 0
ResolvesAt asking records m [] outcomes old new = (outcomes ≡ []) × (new ≡ old)
ResolvesAt asking records m (x ∷ xs) outcomes old new = ResolvesThese asking records m (x ∷ xs) outcomes old new

-- ---- what it leaves alone

-- A desk, as one manager is asked one thing after another: nothing is done at the others, what is kept and what was
-- outstanding stays, and no more is outstanding.
pub record AsksAlone (m : ℕ) (old new : DeskView) : Type 0 where
  pub others : (n : ℕ) → 1 ≤ n → n ≢ m → ledger new.ledgers n ≡ ledger old.ledgers n
  pub managers : length new.ledgers ≡ length old.ledgers
  pub keeps : KeepsDesk old new
  pub left : LeavesOutstanding old.ledgers new.ledgers
  pub free : outstanding new.ledgers ≡ outstanding old.ledgers
  pub all : AllKept old → AllKept new

-- ---- all managers

-- how many requests resolving so many branches of a manager may take: none, or one to open it and two for each
abbrev pub requests_for : List XidName → ℕ
requests_for [] = 0
requests_for (x ∷ xs) = 1 + 2 * length (x ∷ xs)

-- how many branches are left at the first n managers
abbrev pub left_up_to : ScanView → ℕ → ℕ
left_up_to z n = sum_by (λ m. length (left_at z m)) (range_with_len 1 n)

-- the plan has room for them at each manager
pub record MayResolve (d : DeskView) (z : ScanView) : Type 0 where
  pub room : (m : ℕ) → IsUpTo MOST_MANAGERS m → requests_for (left_at z m) ≤ room_at d.ledgers m

-- what is asked of a manager takes its ledger from one to another
abbrev pub AsksLedger : Asking LedgerView
AsksLedger a op a' code = AskTrace (Some op) (Some code) a a'

-- What a resolve of managers 1 to n did, over states of each: it asked each of them, in the order of the branches left
-- there; and its outcomes are theirs, by rising number. Nothing else was asked.
pub record Resolves {D : Type 0} (asking : Asking D) (records : Records) (z : ScanView) (n : ℕ) (old new : ℕ → D)
    (outcomes : List Outcome) : Type 0 where
  pub at : ℕ → List Outcome
  pub outcomes_are : outcomes ≡ flat_map at (range_with_len 1 n)
  pub each : (m : ℕ) → IsUpTo n m → ResolvesAt asking records m (left_at z m) (at m) (old m) (new m)
  pub others : (m : ℕ) → n < m → new m ≡ old m

-- What a resolve left is its trace: its course over the desk's ledgers, one for each manager.
pub record IsTraceOfResolve (z : ScanView) (records : Records) (old new : List LedgerView) (outcomes : List Outcome)
    : Type 0 where
  pub course : Resolves AsksLedger records z MOST_MANAGERS (ledger old) (ledger new) outcomes
  pub managers : length new ≡ length old

-- ---- in which order, and what it idles for

-- Managers 1 to n were resolved by rising number, each once the one before it had answered all that it was asked.
pub data ResolvesInTurn {D : Type 0} (asking : ℕ → Asking D) (records : Records) (z : ScanView) (old : D)
    : ℕ → List Outcome → D → Type 0 where
  begun : (outcomes : List Outcome) (new : D) → outcomes ≡ [] → new ≡ old
      → ResolvesInTurn asking records z old 0 outcomes new
  next : (n m : ℕ) (xs more all : List Outcome) (d e : D) → ResolvesInTurn asking records z old n xs d → m ≡ n + 1
      → ResolvesAt (asking m) records m (left_at z m) more d e → all ≡ xs ++ more
      → ResolvesInTurn asking records z old m all e
