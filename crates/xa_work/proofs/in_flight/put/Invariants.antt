use Rattle.xa_desk.specs.{GoesOn, AllKept}
use Rattle.xa_work.specs.{StaysSo}
use Rattle.xa_work.proofs.in_flight.put.Given as goal

-- so far the queue was full, and nothing was done
abbrev pub invariant-loop : goal.invariant-loop
invariant-loop g l = record {
  can : (goal.iterator-loop g).can_next l.iterator';
  finite : (goal.iterator-loop g).is_finite l.iterator';
  goes_on : GoesOn l.fn.desk l.desk;
  kept : AllKept l.fn.desk → AllKept l.desk;
  idled : g.I.Idle.leads l.fn.idle l.idle;
  stays : StaysSo l.fn.desk l.desk;
}
