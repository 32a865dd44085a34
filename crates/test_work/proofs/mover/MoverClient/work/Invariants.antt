use Rattle.xa_desk.specs.{GoesOn, AllKept}
use Rattle.test_work.proofs.mover.MoverClient.work.Given as goal

-- some units of work were done
abbrev pub invariant-loop-one : goal.invariant-loop-one
invariant-loop-one g l = record {
  goes_on : GoesOn l.fn.desk l.desk;
  kept : AllKept l.fn.desk → AllKept l.desk;
  idled : g.I.Idle.leads l.fn.idle l.idle;
}
