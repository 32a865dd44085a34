use Rattle.xa_base.proofs.{◌≡◌, ◌+◌, false, List, ◌++◌, length, take, list_any}
use Rattle.xa_desk.specs.{GoesOn, AllKept}
use Rattle.xa_log.specs.{IsReadAs}
use Rattle.xa_work.specs.{WorkOutcome, is_last}
use Rattle.demo_bank.specs.{MakesEach}
use Rattle.demo_bank.proofs.teller.Teller.make_all.Given as goal

-- the first transfers were made, none of them was the last, and the log is known
abbrev pub invariant-loop-place : goal.invariant-loop-place
invariant-loop-place g l = record {
  goes_on : GoesOn l.fn.desk l.desk;
  kept : AllKept l.fn.desk → AllKept l.desk;
  idled : g.I.Idle.leads l.fn.idle l.idle;
  transfers : l.self.transfers ≡ l.fn.self.transfers;
  habits : l.self.habits ≡ l.fn.self.habits;
  knows : g.L.DecisionRecords.knows l.self.log;
  each : length l.self.outcomes.items ≡ length l.fn.self.outcomes.items + l.place;
  made : (more : List WorkOutcome)
      × (l.self.outcomes.items ≡ l.fn.self.outcomes.items ++ more) × (length more ≡ l.place)
      × (list_any is_last more ≡ false)
      × MakesEach l.fn.desk.thread l.fn.self.habits l.fn.self.habits.first (take l.place l.fn.self.transfers.items) more
      l.initial.desk l.desk (g.L.DecisionLog.state l.fn.self.log)
      (g.L.DecisionLog.state l.self.log)
      (IsReadAs g.L.DecisionLog.state g.L.DecisionRecords.knows g.L.DecisionLog.loses l.self.log);
}
