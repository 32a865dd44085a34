use Rattle.xa_base.proofs.{take}
use Rattle.xa_base.specs.{Chain}
use Rattle.xa_desk.specs.{GoesOn, AllKept}
use Rattle.script_session.specs.{session_of, HasDone}
use Rattle.xa_script.proofs.script_thread.carry_out_all.Given as goal

-- the first tasks were done
abbrev pub invariant-loop-place : goal.invariant-loop-place
invariant-loop-place g l = record {
  runs : Chain HasDone (session_of l.fn.desk l.fn.log l.fn.scan, l.fn.told) (take l.place l.tasks)
      (session_of l.desk l.log l.scan, l.told);
  goes_on : GoesOn l.fn.desk l.desk;
  kept : AllKept l.fn.desk → AllKept l.desk;
  idled : g.I.Idle.leads l.fn.idle l.idle;
}
