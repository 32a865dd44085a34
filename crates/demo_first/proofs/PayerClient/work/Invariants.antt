use Rattle.xa_desk.specs.{GoesOn, AllKept}
use Rattle.demo_first.proofs.PayerClient.work.Given as goal

-- what a client owes is met so far
abbrev pub invariant-loop-number : goal.invariant-loop-number
invariant-loop-number g l = record {
  goes_on : GoesOn l.fn.desk l.desk;
  kept : AllKept l.desk;
  idled : g.I.Idle.leads l.fn.idle l.idle;
}
