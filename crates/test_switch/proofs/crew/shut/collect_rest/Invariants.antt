use Rattle.xa_desk.specs.{GoesOn, AllKept}
use Rattle.test_switch.proofs.crew.shut.collect_rest.Given as goal

-- the desk goes on and keeps what is outstanding, and the idle has idled
abbrev pub invariant-rest : goal.invariant-rest
invariant-rest g l = record {
  goes_on : GoesOn l.fn.desk l.desk;
  kept : AllKept l.fn.desk → AllKept l.desk;
  idled : g.I.Idle.leads l.fn.idle l.idle;
}
