-- What a teller comes to.
use Rattle.std.specs.Prelude.{◌≡◌, ℕ, ◌+◌, ◌-◌, ◌^◌, nat_lt, Bool, true, false, ◌&&◌, None, List, [], ◌∷◌, ◌++◌, length}
use Rattle.std.specs.List.{All, list_any}
use Rattle.xa_words.specs.Tran.{TranName}
use Rattle.xa_words.specs.declared.death.Death.{Death}
use Rattle.xa_words.specs.declared.death.Death.TheVariants as death
use Rattle.xa_desk.specs.DeskViews.{DeskView}
use Rattle.xa_scan.specs.Left.{ScanView}
use Rattle.xa_crew.specs.declared.client_job.Attended.{Attended}
use Rattle.xa_driver.specs.declared.done.Ending.{Ending}
use Rattle.xa_log.specs.Log.{IsReadAs, LogState}
use Rattle.laws_commit.specs.Cut.{is_recorded}
use Rattle.laws_commit.specs.Outcomes.{ends_heuristic, ends_in_doubt}
use Rattle.xa_work.specs.declared.unit.WorkOutcome.{WorkOutcome}
use Rattle.xa_driver.specs.declared.done.CommitOutcome.TheVariants.{Decided, Died, Undecided}
use Rattle.xa_driver.specs.Outcomes.{endings_known}
use Rattle.xa_work.specs.declared.unit.WorkOutcome.TheVariants.{Commit, Refused}
use Rattle.xa_work.specs.Units.{LeavesKnown, is_last}
use Rattle.xa_work.specs.Works.{OpensAll}
use Rattle.demo_bank.specs.declared.habits.Habits.{Habits}
use Rattle.demo_bank.specs.declared.teller.Teller.{Teller}
use Rattle.demo_bank.specs.declared.teller.Transfer.{Transfer}
use Rattle.demo_bank.specs.Transfers.{MakesAll, tran_of_transfer}

-- the habits of a teller that counts from 0, lives, shuts no store, and keeps its records
abbrev pub plain : Habits
plain = record { first = 0; death = None; shuts = None; forgets = false }

-- How far a teller came with these transfers, where its log is known at first if `Known`, and at the end if `Knows`: it
-- lived, and made all of them; or the last that it made was the last; or its log wasn't known, and it made none.
pub data TransfersCome (Known Knows : Type 0) (trs : List Transfer) (os : List WorkOutcome) : Type 0 where
  lived : list_any is_last os ≡ false → length os ≡ length trs → Knows → TransfersCome Known Knows trs os
  ended : (before : List WorkOutcome) (o : WorkOutcome) → os ≡ before ++ o ∷ []
      → list_any is_last before ≡ false → is_last o ≡ true → LeavesKnown Knows o → TransfersCome Known Knows trs os
  unknown : (Known → ⊥) → os ≡ [] → TransfersCome Known Knows trs os

-- These transfers were made, up to the last that the teller makes, and what became of each was told after the outcomes
-- before it. Where its log was known at first, each store was opened for its thread before them.
pub record HasMade (trs : List Transfer) (habits : Habits) (before : List WorkOutcome) (old : DeskView)
    (log : LogState) (Known : Type 0) (after : List WorkOutcome) (new : DeskView) (later : LogState)
    (Knows : Type 0) (MayRead : LogState → Type 0) : Type 0 where
  pub more : List WorkOutcome
  pub told : after ≡ before ++ more
  pub makes : MakesAll trs habits more old new log later MayRead
  pub opens : Known → (ok : Bool) × OpensAll ok old makes.opened
  pub comes : TransfersCome Known Knows trs more

-- Its transfers and its habits stay. Unless memory was refused, there is an outcome more for each of its transfers,
-- where it isn't to die and its log is known at first and at the end; and its desk and its log show that it came so.
pub record TellerWorks {L : Type 0} (state : L → LogState) (knows : L → Type 0)
    (loses : TranName → List Bool → L → L → Type 0) (t : Teller L) (d : DeskView) (t' : Teller L) (d' : DeskView)
    : Type 0 where
  pub transfers : t'.transfers ≡ t.transfers
  pub habits : t'.habits ≡ t.habits
  pub outcomes : t'.wants_memory ≡ false → t.habits.death ≡ None → knows t.log → knows t'.log
      → length t'.outcomes.items ≡ length t.outcomes.items + length t.transfers.items
  pub made : t'.wants_memory ≡ false → HasMade t.transfers.items t.habits t.outcomes.items d (state t.log)
      (knows t.log) t'.outcomes.items d' (state t'.log) (knows t'.log) (IsReadAs state knows loses t'.log)

-- nobody knows of the transfer whether its record was made
abbrev pub is_undecided : WorkOutcome → Bool
is_undecided (Commit (Undecided votes)) = true
is_undecided o = false

-- so it is of one that the teller made
abbrev pub has_undecided : {L : Type 0} → Teller L → Bool
has_undecided t = list_any is_undecided t.outcomes.items

-- the number of the last transfer that it made
abbrev pub last_number : {L : Type 0} → Teller L → ℕ
last_number t = t.habits.first + length t.outcomes.items - 1

-- the log has the record of thread t's transfer of number n; it has none of one whose number is too great
abbrev pub has_record_of : LogState → ℕ → ℕ → Bool
has_record_of log t n = nat_lt n (2 ^ 32) && is_recorded log (tran_of_transfer t n)

-- The log of thread t's teller was opened again, once, where nobody knows of a transfer whether its record was made,
-- and then looked up for that record; any other is as it was. Nothing was found where nothing was looked for.
pub record ReadsBack {L : Type 0} (state : L → LogState) (knows : L → Type 0)
    (loses : TranName → List Bool → L → L → Type 0) (reopens : L → L → Type 0) (t : ℕ) (teller : Teller L) (log : L)
    (found : Bool) : Type 0 where
  pub once : has_undecided teller ≡ true → reopens teller.log log
  pub same : has_undecided teller ≡ false → log ≡ teller.log
  pub read : knows log → IsReadAs state knows loses teller.log (state log)
  pub finds : knows log → has_undecided teller ≡ true → found ≡ has_record_of (state log) t (last_number teller)
  pub nothing : has_undecided teller ≡ false → found ≡ false
  pub unread : (knows log → ⊥) → found ≡ false

-- in an opening that was opened again it works as in the first, and its scan of what was left stays
pub record WorksOn {L : Type 0} (state : L → LogState) (knows : L → Type 0)
    (loses : TranName → List Bool → L → L → Type 0) (t : Teller L) (d : DeskView) (scan : ScanView) (t' : Teller L)
    (d' : DeskView) (scan' : ScanView) : Type 0 where
  pub works : TellerWorks state knows loses t d t' d'
  pub scan_ : scan' ≡ scan

-- Nothing is in doubt of a transfer with which the teller died: no branch had heard of the decision, so that none is
-- committed; or it was known how each ended, and none was decided by its store itself.
abbrev pub IsClearAt : Death → List Ending → Type 0
IsClearAt (death.Preparing k) endings = Unit {0}
IsClearAt death.Prepared endings = Unit {0}
IsClearAt death.Decided endings = Unit {0}
IsClearAt (death.Telling k) endings = ⊥
IsClearAt death.Told endings = (list_any ends_in_doubt endings ≡ false) × (list_any ends_heuristic endings ≡ false)

-- no branch of the transfer is in doubt, or none was told a decision, so that none is committed
abbrev pub IsUndoubted : WorkOutcome → Type 0
IsUndoubted (Commit (Decided done)) = list_any ends_in_doubt done.endings.items ≡ false
IsUndoubted (Commit (Died at known)) = IsClearAt at (endings_known known)
IsUndoubted (Commit (Undecided votes)) = Unit {0}
IsUndoubted (Refused why) = Unit {0}

-- the teller got all memory that it asked for, and no branch of its transfers is in doubt
pub record EndsWhole {L : Type 0} (a : Attended (Teller L)) : Type 0 where
  pub memory : a.client.wants_memory ≡ false
  pub undoubted : All IsUndoubted a.client.outcomes.items
