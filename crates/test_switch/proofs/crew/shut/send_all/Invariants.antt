use Rattle.xa_desk.specs.{GoesOn, AllKept}
use Rattle.test_switch.proofs.crew.shut.send_all.Given as goal

-- the desk goes on and keeps what is outstanding, and the idle has idled
abbrev pub invariant-asks : goal.invariant-asks
invariant-asks g l = record {
  goes_on : GoesOn l.fn.desk l.desk;
  kept : AllKept l.fn.desk → AllKept l.desk;
  idled : g.I.Idle.leads l.fn.idle l.idle;
}
