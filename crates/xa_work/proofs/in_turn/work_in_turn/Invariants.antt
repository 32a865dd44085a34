use Rattle.xa_base.proofs.{true, take}
use Rattle.xa_base.specs.{Chain}
use Rattle.xa_work.specs.{CallsBranch}
use Rattle.xa_work.proofs.Making.{Leaves}
use Rattle.xa_work.proofs.in_turn.work_in_turn.Given as goal

-- the work of the first branches was done
abbrev pub invariant-loop-branch : goal.invariant-loop-branch
invariant-loop-branch g l = record {
  leaves : Leaves g.I.Idle.leads l.fn.desk l.desk l.fn.idle l.idle;
  calls : Chain (λ b d e. CallsBranch l.changes b true d e) l.fn.desk (take l.branch-index l.branches) l.desk;
}
