use Rattle.xa_base.proofs.{◌≡◌, ◌≤◌, ◌-◌, ◌*◌, ◌++◌, List, length, map, take, vec_capacity}
use Rattle.xa_base.specs.{Chain}
use Rattle.xa_desk.specs.{ledger, room_at}
use Rattle.xa_driver.specs.{Outcome, AsksLedger, AsksAlone, ResolvesBranch}
use Rattle.xa_calls.specs.{AsksAndWaits}
use Rattle.xa_driver.proofs.resolving.resolve_at.Given as goal

-- once the manager was asked to open, the branches so far are resolved
abbrev pub invariant-loop-xid : goal.invariant-loop-xid
invariant-loop-xid g l = record {
  more : (more : List Outcome) × (l.outcomes.items ≡ l.initial.outcomes.items ++ more)
      × (map (λ o. o.xid) more ≡ take l.xid-index l.left) × Chain
      (ResolvesBranch AsksLedger (g.L.DecisionRecords.records l.log) l.manager)
      (ledger l.initial.desk.ledgers l.manager) more (ledger l.desk.ledgers l.manager) × Chain
      (ResolvesBranch (AsksAndWaits g.I.Idle.leads_by l.manager) (g.L.DecisionRecords.records l.log)
      l.manager) (l.initial.desk, l.initial.idle) more (l.desk, l.idle);
  room : 2 * (length l.left - l.xid-index) ≤ room_at l.desk.ledgers l.manager;
  space : vec_capacity l.outcomes ≡ vec_capacity l.initial.outcomes;
  alone : AsksAlone l.manager l.initial.desk l.desk;
  idled : g.I.Idle.leads l.initial.idle l.idle;
}
