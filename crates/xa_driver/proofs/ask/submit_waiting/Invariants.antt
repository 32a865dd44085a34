use Rattle.xa_base.proofs.{◌≡◌, ℕ}
use Rattle.xa_desk.specs.{after_fulls, Idles}
use Rattle.xa_driver.specs.{KeepsDesk}
use Rattle.xa_driver.proofs.ask.submit_waiting.Given as goal

-- nothing was sent yet, and it idled once for each time that the lane was found full
abbrev pub invariant-loop : goal.invariant-loop
invariant-loop g l = record {
  can : (goal.iterator-loop g).can_next l.iterator';
  finite : (goal.iterator-loop g).is_finite l.iterator';
  unsent : l.desk.ledgers ≡ l.initial.desk.ledgers;
  quiet : l.desk.events ≡ l.initial.desk.events;
  keeps : KeepsDesk l.initial.desk l.desk;
  waits : (fulls : ℕ) × (l.desk ≡ after_fulls fulls l.initial.desk l.manager) × Idles (g.I.Idle.leads_by l.manager)
      fulls l.initial.idle l.idle;
  idled : g.I.Idle.leads l.initial.idle l.idle;
}
