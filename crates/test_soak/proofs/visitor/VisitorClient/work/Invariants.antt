use Rattle.xa_desk.specs.{GoesOn, AllKept}
use Rattle.test_soak.proofs.visitor.VisitorClient.work.Given as goal

-- the desk goes on and keeps what is outstanding, and the idle has idled
abbrev pub invariant-loop-number : goal.invariant-loop-number
invariant-loop-number g l =
    record {
      goes_on : GoesOn l.fn.desk l.desk;
      kept : AllKept l.fn.desk → AllKept l.desk;
      idled : g.I.Idle.leads l.fn.idle l.idle;
    }
