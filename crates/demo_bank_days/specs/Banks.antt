-- The bank from day to day: what a day and its night do to it, and what many do.
use Rattle.std.specs.Prelude.{◌≡◌, ◌+◌, ◌<◌, ◌≤◌, ◌^◌, ◌%◌, ℕ, Bool, true}
use Rattle.std.specs.Prelude.{false, if◌then◌else◌, MatchResult, Vec, List, [], ◌∷◌}
use Rattle.std.specs.Prelude.{◌++◌, length, map, vec_capacity}
use Rattle.std.specs.List.{All, list_any}
use Rattle.std.specs.Global.{Global}
use Rattle.xa_base.specs.Lists.{IsUpTo}
use Rattle.xa_words.specs.Key.{key_eq}
use Rattle.xa_words.specs.Tran.{TranName}
use Rattle.xa_tables.specs.ManagerTables.{is_declared}
use Rattle.xa_tables.specs.Managers.{opening}
use Rattle.xa_words.specs.Codes.{is_done}
use Rattle.xa_switch.specs.declared.plan.Again.{Again}
use Rattle.xa_switch.specs.declared.plan.Plan.{Plan}
use Rattle.xa_switch.specs.Reopening.{last_in, managers_in, reopened_at, reopening}
use Rattle.xa_switch.specs.Plans.{numbers_of}
use Rattle.xa_switch.specs.Settled.{Settling, find_manager}
use Rattle.xa_switch.specs.Worth.{accounts_of}
use Rattle.xa_log.specs.Log.{LogState}
use Rattle.xa_driver.specs.declared.resolved.Outcome.{Outcome}
use Rattle.xa_crew_again.specs.declared.again.AgainFault.{AgainFault}
use Rattle.xa_crew_again.specs.Again.{AreGiven, HasRunAgain, IfUnopened, IfUnsettled, IfUnstarted}
use Rattle.xa_crew.specs.Opened.{IsOpened, clients_of}
use Rattle.xa_work.specs.declared.unit.WorkOutcome.{WorkOutcome}
use Rattle.laws_commit.specs.Cut.{is_recorded}
use Rattle.demo_bank.specs.declared.habits.Habits.{Habits}
use Rattle.demo_bank.specs.declared.teller.Teller.{Teller}
use Rattle.demo_bank.specs.declared.teller.Transfer.{Transfer}
use Rattle.demo_bank.specs.Tellers.{ReadsBack, WorksOn}
use Rattle.demo_bank_days.specs.declared.bank.Bank.{Bank}
use Rattle.demo_bank_days.specs.declared.day.Closed.{Closed}
use Rattle.demo_bank_days.specs.declared.errands.Errands.{Errands}
use Rattle.demo_bank_days.specs.declared.day.Evening.{Evening}
use Rattle.demo_bank_days.specs.declared.day.Stop.{Stop}
use Rattle.demo_bank_days.specs.declared.day.Stop.TheVariants.{BadDay, Day, Night, NoMemory}
use Rattle.demo_bank_days.specs.declared.day.Worked.{Worked}
use Rattle.demo_bank_days.specs.declared.night.Unresolved.{Unresolved}
use Rattle.demo_bank_days.specs.Days.{BeginsWith, ForEach, IsDawn, IsDayOf, balances_at, told}
use Rattle.demo_bank_days.specs.AbstractBank.{all_applied}
use Rattle.demo_bank_days.specs.Nights.{Excuses, HasRoomToResolve, IsNight, IsUnsettledNight, IsUntouched}

-- ---- a day

-- the habits of a teller on its errands, whose first transfer has number n: it keeps its records
abbrev pub habits_on : ℕ → Errands → Habits
habits_on n e = record { first = n; death = e.death; shuts = e.shuts; forgets = false }

-- these are the tellers with their logs, turned to the errands, of which they have made none
pub record AreTurned {L : Type 0} (n : ℕ) (tellers : List (Teller L)) (errands : List Errands)
    (turned : List (Teller L)) : Type 0 where
  pub logs : map (λ t. t.log) turned ≡ map (λ t. t.log) tellers
  pub transfers : map (λ t. t.transfers) turned ≡ map (λ e. e.transfers) errands
  pub habits : map (λ t. t.habits) turned ≡ map (habits_on n) errands
  pub none : All (λ t. t.outcomes.items ≡ []) turned

-- the numbers of the opening after one, with so many threads
abbrev pub next_numbers : Again → ℕ → Again
next_numbers n threads = record n { opening = (n.opening + 1) % 2 ^ 64; threads = threads }

-- there is room for what so many tellers come to, and nothing yet
pub record HasRoomForTellers {L : Type 0} (tellers : ℕ) (e : Evening L) : Type 0 where
  pub none : e.tellers.items ≡ []
  pub off_work : tellers ≤ vec_capacity e.tellers
  pub no_outcomes : e.outcomes.items ≡ []
  pub outcomes : tellers ≤ vec_capacity e.outcomes
  pub nothing : e.found.items ≡ []
  pub found : tellers ≤ vec_capacity e.found

-- These tellers worked over stores that had been left so, and whether one wants memory was told, and what became of
-- their transfers. Then the log of each was read back.
pub record TellersHaveWorked {L : Type 0} (state : L → LogState) (knows : L → Type 0)
    (loses : TranName → List Bool → L → L → Type 0) (reopens : L → L → Type 0) (before : Settling)
    (turned : List (Teller L)) (w : Worked L) : Type 0 where
  pub worked : List (Teller L)
  pub is_day : IsDayOf state knows loses w.settled turned worked
  pub begins : BeginsWith w.settled (managers_in before) (reopened_at before.managers)
  pub stores : managers_in w.settled ≡ managers_in before
  pub wants : w.wanting ≡ list_any (λ t. t.wants_memory) worked
  pub logs : ForEach (ReadsBack state knows loses reopens) 1 worked (map (λ t. t.log) w.evening.tellers.items)
      w.evening.found.items
  pub told_ : w.evening.outcomes.items ≡ map (λ t. t.outcomes) worked

-- The day of these turned tellers came to no settled opening. Where the stores weren't opened again, both come back as
-- they were; where they were, and nothing was run, as they were opened; what was run may be settled by `settle_run`.
pub record LeavesDay {L : Type 0} (state : L → LogState) (knows : L → Type 0)
    (loses : TranName → List Bool → L → L → Type 0) (s : Settling) (again : Again) (turned : List (Teller L))
    (fault : AgainFault (Teller L)) : Type 0 where
  pub unopened : IfUnopened (λ u. (u.settled ≡ s) × (u.clients.items ≡ turned)) fault
  pub unstarted : IfUnstarted (λ o. IsOpened (reopening s again) o × AreGiven s again turned (clients_of o)) fault
  pub unsettled : IfUnsettled (HasRunAgain (WorksOn state knows loses) s again turned) fault

-- A day of these errands: the tellers were turned to them and worked, and what became of their transfers was told.
pub record IsBankDay {L : Type 0} (state : L → LogState) (knows : L → Type 0)
    (loses : TranName → List Bool → L → L → Type 0) (reopens : L → L → Type 0) (b : Bank L) (errands : List Errands)
    (c : Closed) : Type 0 where
  pub turned : List (Teller L)
  pub are_turned : AreTurned b.next b.tellers.items errands turned
  pub many : length errands < 2 ^ 32
  pub day : Worked L
  pub works : TellersHaveWorked state knows loses reopens b.settled turned day
  pub told_ : c.outcomes ≡ day.evening.outcomes
  pub found_ : c.found ≡ day.evening.found

-- the numbers of such a day's opening, and of its night's
abbrev pub day_numbers : {L : Type 0} → Bank L → List Errands → Again
day_numbers b errands = next_numbers b.again (length errands)

abbrev pub night_numbers : {L : Type 0} → Bank L → List Errands → Again
night_numbers b errands = next_numbers (day_numbers b errands) 1

-- there are errands for each teller, and numbers for all transfers
abbrev pub IsGoodDay : {L : Type 0} → Bank L → List Errands → Type 0
IsGoodDay b errands =
    (length errands ≡ length b.tellers.items) × (length errands < 2 ^ 32)
    × All (λ e. b.next + length e.transfers.items < 2 ^ 32) errands

-- What stopped a day of these errands before anything was done leaves the bank, or its stores and its tellers, turned
-- to the errands; and what a day or its night came to may be settled yet.
abbrev pub LeavesBank : {L : Type 0} → (L → LogState) → (L → Type 0) → (TranName → List Bool → L → L → Type 0)
    → (L → L → Type 0) → Bank L → List Errands → Stop L → Type 0
LeavesBank state knows loses reopens b errands (BadDay b') = (b' ≡ b) × (IsGoodDay b errands → ⊥)
LeavesBank state knows loses reopens b errands (NoMemory b') = b' ≡ b
LeavesBank {L} state knows loses reopens b errands (Day fault) =
    (turned : List (Teller L)) × AreTurned b.next b.tellers.items errands turned
    × LeavesDay state knows loses b.settled (day_numbers b errands) turned fault
LeavesBank state knows loses reopens b errands (Night c ran) =
    (z : IsBankDay state knows loses reopens b errands c)
    × IsUnsettledNight state knows z.day.evening.tellers z.day.settled (night_numbers b errands) ran

-- So a day, and the bank after it.
pub record IsWorkedDay {L : Type 0} (state : L → LogState) (knows : L → Type 0)
    (loses : TranName → List Bool → L → L → Type 0) (reopens : L → L → Type 0) (b : Bank L) (errands : List Errands)
    (c : Closed) (b' : Bank L) : Type 0 where
  pub is_day : IsBankDay state knows loses reopens b errands c
  pub open is_day use *
  pub stays : day.wanting ≡ true → b'.settled ≡ day.settled
  pub numbers : b'.again ≡ (if day.wanting then day_numbers b errands else night_numbers b errands)
  pub tellers : b'.tellers ≡ day.evening.tellers
  pub later : b.next ≤ b'.next
  pub next : All (λ e. b.next + length e.transfers.items ≤ b'.next) errands

-- And its night: the tellers got all memory that they asked for, and what was left was resolved by their logs.
pub record IsClosedByNight {L : Type 0} (state : L → LogState) (knows : L → Type 0)
    (loses : TranName → List Bool → L → L → Type 0) (reopens : L → L → Type 0) (b : Bank L) (errands : List Errands)
    (c : Closed) (outcomes : List Outcome) (b' : Bank L) : Type 0 where
  pub is_worked : IsWorkedDay state knows loses reopens b errands c b'
  pub open is_worked use *
  pub wants : day.wanting ≡ false
  pub night : IsNight state knows day.evening.tellers.items day.settled b'.again outcomes b'.settled
  pub stores : managers_in b'.settled ≡ managers_in day.settled

-- Nothing was resolved of what such a day left, and why: a teller wants memory, a log isn't known, there is no room for
-- it, or memory was refused. The numbers of a night are always good. The stores are untouched.
pub record IsUnresolved {L : Type 0} (state : L → LogState) (knows : L → Type 0)
    (loses : TranName → List Bool → L → L → Type 0) (reopens : L → L → Type 0) (b : Bank L) (errands : List Errands)
    (c : Closed) (why : Unresolved) (b' : Bank L) : Type 0 where
  pub is_worked : IsWorkedDay state knows loses reopens b errands c b'
  pub open is_worked use *
  pub excuse : Excuses (day.wanting ≡ true) (All (λ t. knows t.log) b'.tellers.items)
      (HasRoomToResolve day.settled (night_numbers b errands)) (Unit {0}) why
  pub untouched : IsUntouched day.settled (night_numbers b errands) b'.settled

-- all is over: what was left is resolved, and each branch of it ended as it was to
abbrev pub IsOver : Closed → Type 0
IsOver c = MatchResult c.resolved (λ z. All (λ o. is_done o.code ≡ true) z.outcomes.items) (λ why. ⊥)

-- so a day that is over
pub record IsClosedDay {L : Type 0} (state : L → LogState) (knows : L → Type 0)
    (loses : TranName → List Bool → L → L → Type 0) (reopens : L → L → Type 0) (b : Bank L) (errands : List Errands)
    (c : Closed) (b' : Bank L) : Type 0 where
  pub outcomes : List Outcome
  pub ended : All (λ o. is_done o.code ≡ true) outcomes
  pub closed : IsClosedByNight state knows loses reopens b errands c outcomes b'

-- these are such days, one after the other, with what each was closed with
abbrev pub AreClosed : {L : Type 0} → (L → LogState) → (L → Type 0) → (TranName → List Bool → L → L → Type 0)
    → (L → L → Type 0) → Bank L → List (Vec Errands Global) → List Closed → Bank L → Type 0
AreClosed state knows loses reopens b [] [] b' = b' ≡ b
AreClosed state knows loses reopens b [] (c ∷ cs) b' = ⊥
AreClosed state knows loses reopens b (d ∷ ds) [] b' = ⊥
AreClosed {L} state knows loses reopens b (d ∷ ds) (c ∷ cs) b' =
    (mid : Bank L) × IsClosedDay state knows loses reopens b d.items c mid
    × AreClosed state knows loses reopens mid ds cs b'

-- all of these days are over
pub record AreOver (days : List (Vec Errands Global)) (closed : List Closed) : Type 0 where
  pub all : length closed ≡ length days
  pub each : All IsOver closed

-- Days have ended: all of them are over, or one isn't, up to which they are.
pub data HasEnded {L : Type 0} (state : L → LogState) (knows : L → Type 0)
    (loses : TranName → List Bool → L → L → Type 0) (reopens : L → L → Type 0) (b : Bank L)
    (days : List (Vec Errands Global)) (closed : List Closed) (b' : Bank L) : Type 0 where
  whole : AreClosed state knows loses reopens b days closed b' → HasEnded state knows loses reopens b days closed b'
  early : (before : List (Vec Errands Global)) (d : Vec Errands Global) (rest : List (Vec Errands Global))
      (cs : List Closed) (c : Closed) (mid : Bank L) → days ≡ before ++ d ∷ rest → closed ≡ cs ++ c ∷ []
      → AreClosed state knows loses reopens b before cs mid → IsWorkedDay state knows loses reopens mid d.items c b'
      → (IsOver c → ⊥) → HasEnded state knows loses reopens b days closed b'

-- Days were stopped so: memory was refused before any, or one was stopped, up to which they are over.
pub data HasStopped {L : Type 0} (state : L → LogState) (knows : L → Type 0)
    (loses : TranName → List Bool → L → L → Type 0) (reopens : L → L → Type 0) (b : Bank L)
    (days : List (Vec Errands Global)) (closed : List Closed) (stop : Stop L) : Type 0 where
  at_once : closed ≡ [] → stop ≡ NoMemory b → HasStopped state knows loses reopens b days closed stop
  at_day : (before : List (Vec Errands Global)) (d : Vec Errands Global) (rest : List (Vec Errands Global))
      (mid : Bank L) → days ≡ before ++ d ∷ rest → AreClosed state knows loses reopens b before closed mid
      → LeavesBank state knows loses reopens mid d.items stop
      → HasStopped state knows loses reopens b days closed stop

-- ---- the balances

-- store m has the account
abbrev pub has_account : Settling → ℕ → List ℕ → Bool
has_account s m k = is_declared (last_in (find_manager m s.managers)) k

-- Before a day: what the stores were left with, and what the logs have, is of earlier transfers.
abbrev pub IsReadyForDay : {L : Type 0} → (L → LogState) → Bank L → Type 0
IsReadyForDay state b =
    IsDawn state (managers_in b.settled) b.next (reopened_at b.settled.managers) (map (λ t. t.log) b.tellers.items)

-- From one to the other these transfers were applied, each whole or not at all: the stores and their accounts are the
-- same, and each account has what they leave.
pub record IsMovedBy {L : Type 0} (state : L → LogState) (es : List (Transfer × Bool)) (b b' : Bank L) : Type 0 where
  pub stores : managers_in b'.settled ≡ managers_in b.settled
  pub accounts : (m : ℕ) (k : List ℕ) → IsUpTo (managers_in b.settled) m
      → has_account b'.settled m k ≡ has_account b.settled m k
  pub balances : (m : ℕ) (k : List ℕ) → IsUpTo (managers_in b.settled) m → has_account b.settled m k ≡ true
      → balances_at b'.settled m k ≡ all_applied es (balances_at b.settled) m k
  pub ready : IsReadyForDay state b'

-- what was told of a day's transfers, and what was found, teller by teller
abbrev pub told_on : List Errands → List (Vec WorkOutcome Global) → List Bool → List (Transfer × Bool)
told_on (e ∷ es) (os ∷ oss) (found ∷ founds) = told found e.transfers.items os.items ++ told_on es oss founds
told_on es oss founds = []

-- and of those of many days, day by day
abbrev pub told_over : List (Vec Errands Global) → List Closed → List (Transfer × Bool)
told_over [] cs = []
told_over (d ∷ ds) [] = []
told_over (d ∷ ds) (c ∷ cs) = told_on d.items c.outcomes.items c.found.items ++ told_over ds cs

-- ---- the first opening

-- each store opens with the accounts of the plan, and no transfer has a number yet
pub record IsOpenedBank {L : Type 0} (p : Plan) (tellers : List (Teller L)) (b : Bank L) : Type 0 where
  pub tellers_ : b.tellers.items ≡ tellers
  pub next : b.next ≡ 0
  pub numbers : b.again ≡ numbers_of p
  pub stores : managers_in b.settled ≡ length p.managers.items
  pub tables : (m : ℕ) → IsUpTo (length p.managers.items) m
      → last_in (find_manager m b.settled.managers) ≡ opening (accounts_of p m)

-- no log has a record
abbrev pub HaveNoRecord : {L : Type 0} → (L → LogState) → List (Teller L) → Type 0
HaveNoRecord {L} state tellers =
    All (λ (t : Teller L). (tran : TranName) → is_recorded (state t.log) tran ≡ false) tellers

-- both stores of the transfer are stores of the plan that have its account
pub record IsWithin (p : Plan) (tr : Transfer) : Type 0 where
  pub from : IsUpTo (length p.managers.items) tr.from
  pub to : IsUpTo (length p.managers.items) tr.to
  pub pays : list_any (λ d. key_eq d.0 tr.account) (accounts_of p tr.from) ≡ true
  pub is_paid : list_any (λ d. key_eq d.0 tr.account) (accounts_of p tr.to) ≡ true
