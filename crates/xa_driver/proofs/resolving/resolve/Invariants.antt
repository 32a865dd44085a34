use Rattle.xa_base.proofs.{◌≡◌, ◌≤◌, length, vec_capacity}
use Rattle.xa_base.specs.{MOST_MANAGERS}
use Rattle.xa_driver.specs.{KeepsTheRest, ResolvesInTurn, left_up_to}
use Rattle.xa_calls.specs.{AsksAndWaits}
use Rattle.xa_driver.proofs.EachLeft.{SoFar}
use Rattle.xa_driver.proofs.resolving.resolve.Given as goal

-- the managers so far are resolved
abbrev pub invariant-loop-before : goal.invariant-loop-before
invariant-loop-before g l = record {
  so_far : SoFar l.scan (g.L.DecisionRecords.records l.log) l.before l.initial.desk.ledgers l.desk.ledgers
      l.outcomes.items;
  waits : ResolvesInTurn (AsksAndWaits g.I.Idle.leads_by) (g.L.DecisionRecords.records l.log) l.scan
      (l.initial.desk, l.initial.idle) l.before l.outcomes.items (l.desk, l.idle);
  many : length l.outcomes.items ≡ left_up_to l.scan l.before;
  space : left_up_to l.scan MOST_MANAGERS ≤ vec_capacity l.outcomes;
  managers : length l.desk.ledgers ≡ length l.initial.desk.ledgers;
  rest : KeepsTheRest l.initial.desk l.desk;
  idled : g.I.Idle.leads l.initial.idle l.idle;
}
