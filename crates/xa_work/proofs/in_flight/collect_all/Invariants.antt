use Rattle.xa_base.proofs.{take}
use Rattle.xa_work.specs.{CollectsAll}
use Rattle.xa_work.proofs.Making.{Leaves}
use Rattle.xa_work.proofs.in_flight.collect_all.Given as goal

-- the first were collected
abbrev pub invariant-loop-flight : goal.invariant-loop-flight
invariant-loop-flight g l = record {
  leaves : Leaves g.I.Idle.leads l.fn.desk l.desk l.fn.idle l.idle;
  collects : CollectsAll (take l.flight-index l.flights) l.all l.fn.desk l.desk;
}
