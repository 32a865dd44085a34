use Rattle.xa_desk.specs.{GoesOn, AllKept}
use Rattle.demo_accounts.proofs.clerk.ClerkClient.work.Given as goal

-- the desk goes on, and what is outstanding there is kept
abbrev pub invariant-loop-place : goal.invariant-loop-place
invariant-loop-place g l =
    record { goes_on : GoesOn l.fn.desk l.desk; kept : AllKept l.desk; idled : g.I.Idle.leads l.fn.idle l.idle }
