use Rattle.xa_base.proofs.{take}
use Rattle.xa_work.specs.{CallsOps}
use Rattle.xa_work.proofs.Making.{Leaves, begun_of}
use Rattle.xa_work.proofs.in_turn.work_on.Given as goal

-- the branch was started, and the first changes were made at its manager
abbrev pub invariant-loop-change : goal.invariant-loop-change
invariant-loop-change g l = record {
  leaves : Leaves g.I.Idle.leads l.fn.desk l.desk l.fn.idle l.idle;
  calls : CallsOps l.branch.m (begun_of (take l.change-index l.changes) l.branch) l.all l.fn.desk l.desk;
}
