-- What a transfer does to its teller's desk and log.
use Rattle.std.specs.Prelude.{◌≡◌, ℕ, ◌+◌, ◌*◌, ◌^◌, ◌<◌, ◌≤◌, ◌⊎◌, ℤ, pos, neg_ℤ, List, [], ◌∷◌, Option}
use Rattle.std.specs.Prelude.{None, Some, if◌then◌else◌}
use Rattle.std.specs.Int.{w64, to_be_bytes}
use Rattle.xa_words.specs.Tran.{TranName, tran_of}
use Rattle.xa_words.specs.declared.death.Death.{Death}
use Rattle.xa_words.specs.declared.request.RmOp.TheVariants.{Shut}
use Rattle.xa_desk.specs.DeskViews.{DeskView}
use Rattle.xa_calls.specs.Asking.{native}
use Rattle.xa_calls.specs.Putting.{Calls}
use Rattle.xa_driver.specs.declared.branch.Branch.{Branch}
use Rattle.xa_driver.specs.Forgetful.{is_acknowledged}
use Rattle.xa_driver.specs.Decision.{yes_of}
use Rattle.xa_driver.specs.Trace.{IsTranOf}
use Rattle.xa_log.specs.Log.{IsEither, LogState, without_record}
use Rattle.xa_work.specs.declared.unit.Change.{Change}
use Rattle.xa_work.specs.declared.unit.Refusal.TheVariants.{NotBegun}
use Rattle.xa_work.specs.declared.unit.WorkOutcome.{WorkOutcome}
use Rattle.xa_driver.specs.declared.done.CommitOutcome.TheVariants.{Decided}
use Rattle.xa_work.specs.declared.unit.WorkOutcome.TheVariants.{Commit, Refused}
use Rattle.xa_work.specs.Sent.{HaveSent, IsOpenRm}
use Rattle.xa_work.specs.Units.{IfLost, IsGivenUp, Transacts}
use Rattle.demo_bank.specs.Numbered.{death_in, shut_before}
use Rattle.demo_bank.specs.declared.habits.Habits.{Habits}
use Rattle.demo_bank.specs.declared.teller.Transfer.{Transfer}

-- ---- the legs of a transfer

-- the gtrid of thread t's transfer of number n: a number for both, in 8 bytes
abbrev pub gtrid_of : ℕ → ℕ → List ℕ
gtrid_of t n = to_be_bytes w64 (t * 2 ^ 32 + n)

-- the format of its name
abbrev pub FORMAT : ℤ
FORMAT = pos 1

-- the name of that transaction
abbrev pub tran_of_transfer : ℕ → ℕ → TranName
tran_of_transfer t n = record { format = FORMAT; gtrid = gtrid_of t n }

-- a store's branch of a transfer, and what is added to its account there
pub record Leg : Type 0 where
  pub branch : Branch
  pub delta : ℤ

-- the leg adds d at store m, by a branch of this global transaction
pub record IsLeg (gtrid : List ℕ) (m : ℕ) (d : ℤ) (leg : Leg) : Type 0 where
  pub store : leg.branch.m ≡ m
  pub format_ : leg.branch.xid.format ≡ FORMAT
  pub gtrid_ : leg.branch.xid.gtrid ≡ gtrid
  pub adds : leg.delta ≡ d

-- a transfer of number n has no legs: its number is too great, or its stores are one
abbrev pub HasNoLegs : ℕ → Transfer → Type 0
HasNoLegs n tr = (2 ^ 32 ≤ n) ⊎ (tr.from ≡ tr.to)

-- the legs of thread t's transfer of number n, by rising store: one store pays the amount, and the other is paid it
pub data AreLegs (t n : ℕ) (tr : Transfer) (one two : Leg) : Type 0 where
  pays_first : n < 2 ^ 32 → tr.from < tr.to → IsLeg (gtrid_of t n) tr.from (neg_ℤ (pos tr.amount)) one
      → IsLeg (gtrid_of t n) tr.to (pos tr.amount) two → AreLegs t n tr one two
  paid_first : n < 2 ^ 32 → tr.to < tr.from → IsLeg (gtrid_of t n) tr.to (pos tr.amount) one
      → IsLeg (gtrid_of t n) tr.from (neg_ℤ (pos tr.amount)) two → AreLegs t n tr one two

-- what the leg changes: account k at its store
abbrev pub change_of : Leg → List ℕ → Change
change_of leg k = record { m = leg.branch.m; key = k; delta = leg.delta }

-- the branches of two legs, and what they change
abbrev pub branches_of_legs : Leg → Leg → List Branch
branches_of_legs one two = one.branch ∷ two.branch ∷ []

abbrev pub changes_of : Leg → Leg → List ℕ → List Change
changes_of one two k = change_of one k ∷ change_of two k ∷ []

-- the leg of a branch at whose store this is changed
abbrev pub leg_by : Branch → Change → Leg
leg_by b c = record { branch = b; delta = c.delta }

-- these are the branches of thread t's transfer of number n, by rising store, and this is changed at the store of each
pub record HasLegs (t n : ℕ) (tr : Transfer) (b : Branch) (c : Change) (b' : Branch) (c' : Change) : Type 0 where
  pub legs : AreLegs t n tr (leg_by b c) (leg_by b' c')
  pub first : c ≡ change_of (leg_by b c) tr.account
  pub second : c' ≡ change_of (leg_by b' c') tr.account

-- ---- what becomes of a transfer

-- what comes of two legs, by a teller whose log is known: they are one unit of work
abbrev pub Transfers : Leg → Leg → List ℕ → Option Death → WorkOutcome → DeskView → DeskView → LogState → LogState
    → Type 0
Transfers one two k death o old new log later =
    Transacts (branches_of_legs one two) (changes_of one two k) death o old new log (Unit {0}) later

-- the log, once the record of a transaction that came to this is forgotten, where every store has acknowledged it
abbrev pub log_after_forgetting : TranName → WorkOutcome → LogState → LogState
log_after_forgetting tran (Commit (Decided done)) log = if is_acknowledged done then without_record log tran else log
log_after_forgetting tran o log = log

-- Where nobody knows whether the log has the record that the votes on these branches wanted: whatever it may be read
-- as, once it is opened again, is what it was, with that record or without it.
abbrev pub IsReadEither : (LogState → Type 0) → List Branch → LogState → WorkOutcome → Type 0
IsReadEither MayRead bs log o =
    IfLost (λ votes. (tran : TranName) (read : LogState) → IsTranOf bs tran → MayRead read
    → IsEither log read tran (yes_of bs votes)) o

-- What comes of thread t's transfer of number n, by its habits: that of its legs, and the record may be forgotten; or
-- it has none, and nothing is done. `MayRead` says what the log may be read as, once it is opened again.
pub data Makes (t n : ℕ) (tr : Transfer) (habits : Habits) (o : WorkOutcome) (old new : DeskView)
    (log later : LogState) (MayRead : LogState → Type 0) : Type 0 where
  with_legs : (one two : Leg) (left : LogState) → AreLegs t n tr one two
      → Transfers one two tr.account (death_in habits n) o old new log left
      → later ≡ (if habits.forgets then log_after_forgetting (tran_of one.branch.xid) o left else left)
      → IsReadEither MayRead (branches_of_legs one two) log o → Makes t n tr habits o old new log later MayRead
  without_legs : o ≡ Refused NotBegun → HasNoLegs n tr → new ≡ old → later ≡ log
      → Makes t n tr habits o old new log later MayRead

-- it may shut a store: this one, if any
abbrev pub MayShut : Option ℕ → DeskView → DeskView → Type 0
MayShut None old new = new ≡ old
MayShut (Some m) old new = (answer : ℤ) × Calls (native Shut 0) old m new answer

-- what comes of it, where the teller shuts a store first, or none
pub record MakesNext (t n : ℕ) (tr : Transfer) (habits : Habits) (o : WorkOutcome) (old new : DeskView)
    (log later : LogState) (MayRead : LogState → Type 0) : Type 0 where
  pub shut : DeskView
  pub shuts : MayShut (shut_before habits n) old shut
  pub makes : Makes t n tr habits o shut new log later MayRead

-- What comes of it where memory was wanted: it is given up.
pub record WantsMemory (t n : ℕ) (tr : Transfer) (habits : Habits) (old new : DeskView) (log : LogState) : Type 0 where
  pub shut : DeskView
  pub shuts : MayShut (shut_before habits n) old shut
  pub one : Leg
  pub two : Leg
  pub legs : AreLegs t n tr one two
  pub given_up : IsGivenUp (branches_of_legs one two) (changes_of one two tr.account) shut new log

-- so for as many transfers as there are outcomes, one after the other, with numbers from n on
abbrev pub MakesEach : ℕ → Habits → ℕ → List Transfer → List WorkOutcome → DeskView → DeskView → LogState
    → LogState → (LogState → Type 0) → Type 0
MakesEach t habits n [] [] old new log later MayRead = (new ≡ old) × (later ≡ log)
MakesEach t habits n (tr ∷ trs) [] old new log later MayRead = (new ≡ old) × (later ≡ log)
MakesEach t habits n (tr ∷ trs) (o ∷ os) old new log later MayRead =
    (mid : DeskView) × (now : LogState) × MakesNext t n tr habits o old mid log now MayRead
    × MakesEach t habits (n + 1) trs os mid new now later MayRead
MakesEach t habits n [] (o ∷ os) old new log later MayRead = ⊥

-- the thread opened stores, and then made these transfers, the first of which has the number of its habits
pub record MakesAll (trs : List Transfer) (habits : Habits) (os : List WorkOutcome) (old new : DeskView)
    (log later : LogState) (MayRead : LogState → Type 0) : Type 0 where
  pub opened : DeskView
  pub opens : HaveSent IsOpenRm old.ledgers opened.ledgers
  pub makes : MakesEach old.thread habits habits.first trs os opened new log later MayRead
