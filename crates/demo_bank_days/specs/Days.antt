-- What tellers did in a settled opening, the night after it, and what the two do to the balances.
use Rattle.std.specs.Prelude.{◌≡◌, ◌≢◌, ◌⊎◌, ℕ, ◌+◌, ◌^◌, ◌<◌, ◌≤◌, Bool, true, false, None, Some, List, []}
use Rattle.std.specs.Prelude.{◌∷◌, ◌++◌, length}
use Rattle.std.specs.Prelude.{map, slice_get}
use Rattle.std.specs.List.{All}
use Rattle.xa_base.specs.declared.limits.TheConstants.{MOST_MANAGERS}
use Rattle.xa_base.specs.Lists.{IsUpTo}
use Rattle.xa_words.specs.Xid.{XidName}
use Rattle.xa_words.specs.Tran.{TranName, tran_of}
use Rattle.xa_words.specs.declared.code.Code.TheVariants.{RmFail}
use Rattle.xa_tables.specs.ManagerTables.{Tables, exists, value_of}
use Rattle.xa_desk.specs.DeskViews.{DeskView}
use Rattle.xa_switch.specs.declared.plan.Again.{Again}
use Rattle.xa_switch.specs.Reopening.{last_in, reopening}
use Rattle.xa_switch.specs.Fates.{first_of, ledgers_of}
use Rattle.xa_switch.specs.OfPlans.{IsOf}
use Rattle.xa_switch.specs.Recovery.{IsScanOf}
use Rattle.xa_switch.specs.Settled.{Settling, IsSettled, find_manager, sent}
use Rattle.xa_log.specs.Log.{IsReadAs, LogState, Records, all_records, record_in}
use Rattle.laws_commit.specs.Conservation.{NothingWasSent}
use Rattle.laws_commit.specs.Cut.{is_recorded}
use Rattle.laws_commit.specs.Calls.{ResolveCall}
use Rattle.laws_commit.specs.Resolution.{Continues, IsUseIn, OnlyResolves, resolves, with_use}
use Rattle.xa_work.specs.declared.unit.WorkOutcome.{WorkOutcome}
use Rattle.xa_driver.specs.declared.done.CommitOutcome.TheVariants.{Undecided}
use Rattle.xa_work.specs.declared.unit.WorkOutcome.TheVariants.{Commit}
use Rattle.xa_work.specs.Sent.{HaveSent}
use Rattle.xa_work.specs.Units.{decided_to_commit}
use Rattle.demo_bank.specs.declared.teller.Teller.{Teller}
use Rattle.demo_bank.specs.declared.teller.Transfer.{Transfer}
use Rattle.demo_bank.specs.Tellers.{TellerWorks, has_undecided, last_number}
use Rattle.demo_bank.specs.Transfers.{gtrid_of, tran_of_transfer}
use Rattle.demo_bank_days.specs.AbstractBank.{Balances}

-- ---- what the tellers were told

-- Whether a transfer is to be applied: it was decided to commit; or nobody knows whether its record was made, and the
-- log, once it was opened again, was found to have it.
abbrev pub is_applied : Bool → WorkOutcome → Bool
is_applied found (Commit (Undecided votes)) = found
is_applied found o = decided_to_commit o

-- the transfers that were made, each with whether it is to be applied
abbrev pub told : Bool → List Transfer → List WorkOutcome → List (Transfer × Bool)
told found (tr ∷ trs) (o ∷ os) = (tr, is_applied found o) ∷ told found trs os
told found trs os = []

-- those of all tellers, each with what was found
abbrev pub all_told : {L : Type 0} → List Bool → List (Teller L) → List (Transfer × Bool)
all_told (found ∷ founds) (t ∷ ts) = told found t.transfers.items t.outcomes.items ++ all_told founds ts
all_told founds ts = []

-- ---- the day

-- Thread t of a settled opening was this teller's: from a desk that had sent nothing it worked, and the desk's end sent
-- nothing more.
pub record WorkedIn {L : Type 0} (state : L → LogState) (knows : L → Type 0)
    (loses : TranName → List Bool → L → L → Type 0) (s : Settling) (t : ℕ) (old new : Teller L) : Type 0 where
  pub desk : DeskView
  pub left : DeskView
  pub thread : desk.thread ≡ t
  pub nothing : NothingWasSent desk.ledgers
  pub worked : TellerWorks state knows loses old desk new left
  pub ended : HaveSent (λ op. ⊥) left.ledgers (ledgers_of s t)

-- the teller at place k had thread k + 1, and no other thread sent anything
pub record IsDayOf {L : Type 0} (state : L → LogState) (knows : L → Type 0)
    (loses : TranName → List Bool → L → L → Type 0) (s : Settling) (olds news : List (Teller L)) : Type 0 where
  pub settled : IsSettled s
  pub many : length news ≡ length olds
  pub each : (k : ℕ) (old new : Teller L) → slice_get olds k ≡ Some old → slice_get news k ≡ Some new
      → WorkedIn state knows loses s (k + 1) old new
  pub others : (t : ℕ) → (t < 1) ⊎ (length olds < t) → (m : ℕ) → sent s t m ≡ []

-- the stores are those up to this number, and this is what each began with
pub record BeginsWith (s : Settling) (stores : ℕ) (first : ℕ → Tables) : Type 0 where
  pub few : stores ≤ MOST_MANAGERS
  pub there : (m : ℕ) → IsUpTo stores m → first_of s m ≡ Some (first m)
  pub only : (m : ℕ) (T : Tables) → first_of s m ≡ Some T → IsUpTo stores m

-- The teller had made no transfer, counts from number n or later, and keeps its records; and it got all memory that it
-- asked for.
pub record IsToldAll {L : Type 0} (n : ℕ) (old new : Teller L) : Type 0 where
  pub begins : old.outcomes.items ≡ []
  pub counts : n ≤ old.habits.first
  pub keeps : old.habits.forgets ≡ false
  pub memory : new.wants_memory ≡ false

-- so each of them
abbrev pub AreToldAll : {L : Type 0} → ℕ → List (Teller L) → List (Teller L) → Type 0
AreToldAll {L} n olds news =
    (k : ℕ) (old new : Teller L) → slice_get olds k ≡ Some old → slice_get news k ≡ Some new → IsToldAll n old new

-- ---- the logs in the evening

-- The log of thread t's teller, as it is read in the night: as it was, or opened again where nobody knows of a transfer
-- whether its record was made. Then it was found to have that record, or not.
pub record IsReadBack {L : Type 0} (state : L → LogState) (knows : L → Type 0)
    (loses : TranName → List Bool → L → L → Type 0) (t : ℕ) (teller : Teller L) (log : L) (found : Bool) : Type 0 where
  pub same : has_undecided teller ≡ false → log ≡ teller.log
  pub read : knows log → IsReadAs state knows loses teller.log (state log)
  pub finds : knows log → has_undecided teller ≡ true → last_number teller < 2 ^ 32
      → found ≡ is_recorded (state log) (tran_of_transfer t (last_number teller))

-- this holds of each teller, its log and what that was found to have, of the threads from t on
abbrev pub ForEach : {L : Type 0} → (ℕ → Teller L → L → Bool → Type 0) → ℕ → List (Teller L) → List L → List Bool
    → Type 0
ForEach P t [] [] [] = Unit {0}
ForEach P t (teller ∷ tellers) (log ∷ logs) (found ∷ founds) =
    P t teller log found × ForEach P (t + 1) tellers logs founds
ForEach P t tellers logs founds = ⊥

-- so those of all tellers were read back
abbrev pub AreReadBack : {L : Type 0} → (L → LogState) → (L → Type 0) → (TranName → List Bool → L → L → Type 0) → ℕ
    → List (Teller L) → List L → List Bool → Type 0
AreReadBack state knows loses = ForEach (IsReadBack state knows loses)

-- ---- between days

-- the global transaction is thread t's transfer of number n
pub record IsGtridOfTransfer (t n : ℕ) (gtrid : List ℕ) : Type 0 where
  pub small : n < 2 ^ 32
  pub gtrid_ : gtrid ≡ gtrid_of t n

-- what these logs have, read as one
abbrev pub records_of_logs : {L : Type 0} → (L → LogState) → List L → Records
records_of_logs state logs = all_records (map (λ log. (state log).records) logs)

-- Before a day whose transfers have numbers from n on: a branch that a store was left with is none of theirs, and no
-- log has a record of it; and the log of each thread has records of that thread's earlier transfers alone.
pub record IsDawn {L : Type 0} (state : L → LogState) (stores n : ℕ) (first : ℕ → Tables) (logs : List L) : Type 0 where
  pub fresh : (m : ℕ) (x : XidName) → IsUpTo stores m → exists (first m) x ≡ true
      → (t k : ℕ) → 1 ≤ t → t ≤ length logs → IsGtridOfTransfer t k x.gtrid → k < n
  pub unrecorded : (m : ℕ) (x : XidName) → IsUpTo stores m → exists (first m) x ≡ true
      → record_in (records_of_logs state logs) (tran_of x) ≡ None
  pub own : (j : ℕ) (log : L) (tran : TranName) → slice_get logs j ≡ Some log → is_recorded (state log) tran ≡ true
      → (k : ℕ) × (k < n) × IsGtridOfTransfer (j + 1) k tran.gtrid

-- ---- the night

-- The opening was opened again and settled in turn, and nothing but one resolve by these records named a branch there:
-- it had the scan of all that was left, and reached each of it.
pub record IsResolvedBy (records : Records) (s : Settling) (again : Again) (q : ResolveCall) (next : Settling)
    : Type 0 where
  pub settled : IsSettled next
  pub continues : Continues s next
  pub of_setup : IsOf (reopening s again) next
  pub made : IsUseIn next (resolves q)
  pub by_ : q.records ≡ records
  pub scanned : IsScanOf s q.scan
  pub only : (t : TranName) → OnlyResolves t (with_use next (resolves q))
  pub reached : All (λ r. r.code ≢ RmFail) q.outcomes

-- A day of tellers, what their logs were found to have in the evening, and the night that resolved by them what was
-- left. The day was settled and opened again, and the night was settled as `next`. The stores began with these tables,
-- and transfers count from number `first` on.
pub record DayAndNight {L : Type 0} (state : L → LogState) (knows : L → Type 0)
    (loses : TranName → List Bool → L → L → Type 0) : Type 0 where
  pub day : Settling
  pub again : Again
  pub resolve : ResolveCall
  pub next : Settling
  pub olds : List (Teller L)
  pub news : List (Teller L)
  pub logs : List L
  pub founds : List Bool
  pub stores : ℕ
  pub first : ℕ
  pub tables : ℕ → Tables
  pub is_day : IsDayOf state knows loses day olds news
  pub begins : BeginsWith day stores tables
  pub told_all : AreToldAll first olds news
  pub back : AreReadBack state knows loses 1 news logs founds
  pub known : All knows logs
  pub dawn : IsDawn state stores first tables (map (λ t. t.log) olds)
  pub resolved : IsResolvedBy (records_of_logs state logs) day again resolve next

-- ---- the balances

-- what these tables have, and what a settled opening has in the end
abbrev pub balances_of : (ℕ → Tables) → Balances
balances_of first m k = value_of (first m).values k

abbrev pub balances_at : Settling → Balances
balances_at s m k = value_of (last_in (find_manager m s.managers)).values k
