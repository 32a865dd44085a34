use Rattle.xa_base.proofs.{on_err, ◌≡◌, ℕ, ◌+◌, ◌-◌, Bool, if◌then◌else◌, List, [], ◌∷◌, Option, refl, ap, ◌∙◌, subst}
use Rattle.xa_base.proofs.{arith}
use Rattle.xa_words.specs.{TranName, tran_of, Death}
use Rattle.xa_desk.specs.{DeskView, GoesOn, DeskSeat}
use Rattle.xa_driver.specs.{Branch}
use Rattle.xa_log.specs.{IsReadAs, LogState}
use Rattle.xa_work.specs.{Change, WorkOutcome, IfLost, IsRefused, LeavesKnown, LosesRecord, Transacts}
use Rattle.xa_work.specs.Units.IsRefused.{barred, unbegun, undone}
use Rattle.xa_work.specs.Units.Transacts.{commits, refused}
use Rattle.demo_bank.specs.{Habits, Transfer, death_if_at, shut_before, store_if_at, HasLegs, IsReadEither, Makes}
use Rattle.demo_bank.specs.{MayShut, WantsMemory, changes_of, log_after_forgetting, leg_by, with_legs, without_legs}
use Rattle.demo_bank.proofs.Named.{if_both, if_so, lost_so}
use Rattle.demo_bank.proofs.teller.Teller.make.Goals as goal
use Rattle.demo_bank.proofs.teller.Teller.make.Goals.{else-self, then-self}

-- ---- where the log is known

refused_known : {Known : Type 0} → Known
    → (bs : List Branch) (cs : List Change) (o : WorkOutcome) (old new : DeskView) (log : LogState)
    → IsRefused bs cs o old new log Known → IsRefused bs cs o old new log (Unit {0})
refused_known known bs cs o old new log (unbegun is may same) = unbegun is (λ begins _. may begins known) same
refused_known known bs cs o old new log (undone tried is begins _ tries gives_up) =
    undone tried is begins tt tries gives_up
refused_known known bs cs o old new log (barred tried is begins _ tries may gives_up) =
    barred tried is begins tt tries may gives_up

transacts_known : {Known : Type 0} → Known
    → (bs : List Branch) (cs : List Change) (death : Option Death) (o : WorkOutcome) (old new : DeskView)
    (log later : LogState) → Transacts bs cs death o old new log Known later
    → Transacts bs cs death o old new log (Unit {0}) later
transacts_known known bs cs death o old new log later (commits worked outcome is begins _ work comes) =
    commits worked outcome is begins tt work comes
transacts_known known bs cs death o old new log later (refused same why sent) =
    refused same (refused_known known bs cs o old new log why) sent

-- ---- the transfer at a place

-- its number, less that of the first
place_of : (n place : ℕ) → place ≡ n + place - n
place_of n place = omega arith

shuts_at : (habits : Habits) (place : ℕ) (old shut : DeskView) → MayShut (store_if_at habits.shuts place) old shut
    → MayShut (shut_before habits (habits.first + place)) old shut
shuts_at habits place old shut =
    subst (λ k. MayShut (store_if_at habits.shuts k) old shut) (place_of habits.first place)

-- a desk is of its thread after a store was shut
own_thread : {old shut : DeskView} {t : ℕ} → t ≡ shut.thread → GoesOn old shut → t ≡ old.thread
own_thread is goes = is ∙ ap (λ (s : DeskSeat). s.thread) goes.seat

module _ {L : Type 0} (state : L → LogState) (knows : L → Type 0) (loses : TranName → List Bool → L → L → Type 0)
    (t place : ℕ) (tr : Transfer)
    (habits : Habits)
    (b : Branch) (c : Change) (b' : Branch) (c' : Change) (legs : HasLegs t (habits.first + place) tr b c b' c')
    (shut new : DeskView) (was left : L) (known : knows was) (o : WorkOutcome) where
  abbrev bs : List Branch
  bs = b ∷ b' ∷ []

  -- a log that has lost the record stays so
  kept_read : (kept : L) → IfLost (λ votes. kept ≡ left) o
      → IsReadEither (IsReadAs state knows loses left) bs (state was) o
      → IsReadEither (IsReadAs state knows loses kept) bs (state was) o
  kept_read kept = search (arith, if_both)

  -- what the unit of work came to, and what is kept of its record
  made : Transacts bs (c ∷ c' ∷ []) (death_if_at habits.death place) o shut new (state was) (knows was) (state left)
      → (knows was → LeavesKnown (knows left) o)
      → IfLost (LosesRecord loses bs was left) o → (kept : L)
      → state kept ≡ (if habits.forgets then log_after_forgetting (tran_of b.xid) o (state left) else state left)
      → IfLost (λ votes. kept ≡ left) o
      → Makes t (habits.first + place) tr habits o shut new (state was) (state kept) (IsReadAs state knows loses kept)
  made works still lost kept is same =
      with_legs (leg_by b c) (leg_by b' c') (state left) legs.legs
      (transacts_known known bs (changes_of (leg_by b c) (leg_by b' c') tr.account) _ o shut new (state was)
      (state left)
      (subst
      (λ (p : List Change × ℕ). Transacts bs p.0 (death_if_at habits.death p.1) o shut new (state was) (knows was)
      (state left))
      (λ i. (legs.first i ∷ legs.second i ∷ [], place_of habits.first place i)) works))
      is
      (kept_read kept same (lost_so state knows loses bs was left o lost (still known)))

pub returns-in_default-clause-makes : goal.returns-in_default-clause-makes
returns-in_default-clause-makes g c = record {
  shut = c.shut.new.desk;
  shuts = shuts_at c.args.self.now.habits c.args.place c.args.desk.now c.shut.new.desk c.shut.ensures.shuts;
  makes = without_legs refl c.in_default.ensures refl refl;
}

pub returns-in_err-outcome-clause-wants : goal.returns-in_err-outcome-clause-wants
returns-in_err-outcome-clause-wants g c =
    let tr = c.args.transfer.now in
    let number : ℕ = c.args.self.now.habits.first + c.args.place in
    let log : LogState = g.L.DecisionLog.state c.args.self.now.log in
    let legs =
    rw (own_thread c.thread.ensures.thread c.shut.ensures.goes_on) at c.in-Some.ensures in
    on_err c.from_residual.result
    (WantsMemory c.args.desk.now.thread number tr c.args.self.now.habits c.args.desk.now c.transact_until.new.desk
    log)
    (record {
      shut = c.shut.new.desk;
      shuts = shuts_at c.args.self.now.habits c.args.place c.args.desk.now c.shut.new.desk c.shut.ensures.shuts;
      one = leg_by c.in-Some.legs.0.0 c.in-Some.legs.0.1;
      two = leg_by c.in-Some.legs.1.0 c.in-Some.legs.1.1;
      legs = legs.legs;
      given_up = search (arith, c.shut.new.desk, c.transact_until.new.desk, legs.first, legs.second);
    })

pub returns-clause-makes : goal.returns-clause-makes
returns-clause-makes g c =
    let habits = c.args.self.now.habits in
    let tr = c.args.transfer.now in
    let number : ℕ = habits.first + c.args.place in
    let o = c.in_ok-outcome.outcome in
    let left = c.transact_until.new.log in
    let kept = c.if-self.self.log in
    let b = c.in-Some.legs.0.0 in
    let state = g.L.DecisionLog.state in
    let legs =
    rw (own_thread c.thread.ensures.thread c.shut.ensures.goes_on) at c.in-Some.ensures in
    let is : state kept ≡ (if habits.forgets then log_after_forgetting (tran_of b.xid) o (state left) else state left) =
    search (arith, then-self, else-self) in
    let same : IfLost (λ votes. kept ≡ left) o = search (arith, then-self, else-self, if_so, c.if-self.branch) in
    record {
      shut = c.shut.new.desk;
      shuts = shuts_at habits c.args.place c.args.desk.now c.shut.new.desk c.shut.ensures.shuts;
      makes =
          made state g.L.DecisionRecords.knows g.L.DecisionLog.loses c.args.desk.now.thread c.args.place tr habits b
          c.in-Some.legs.0.1 c.in-Some.legs.1.0 c.in-Some.legs.1.1 legs c.shut.new.desk
          c.transact_until.new.desk c.args.self.now.log left c.requires.known o
          (rw c.death_at-at.ensures at c.in_ok-outcome.ensures.transacts)
          c.in_ok-outcome.ensures.known c.in_ok-outcome.ensures.lost kept is same;
    }
