use Rattle.xa_base.proofs.{take}
use Rattle.xa_base.specs.{Chain}
use Rattle.xa_words.specs.{TMFAIL}
use Rattle.xa_words.specs.declared.flags.Call.TheVariants as call
use Rattle.xa_desk.specs.{DeskView}
use Rattle.xa_work.specs.{CallsFor}
use Rattle.xa_work.proofs.Making.{Leaves}
use Rattle.xa_work.proofs.giving_up.give_up.Given as goal

-- the work on the first branches was ended as failed
abbrev pub invariant-loop-branch : goal.invariant-loop-branch
invariant-loop-branch g l = record {
  leaves : Leaves g.I.Idle.leads l.fn.desk l.desk l.fn.idle l.idle;
  ends : Chain (CallsFor call.End TMFAIL) l.fn.desk (take l.branch-index l.branches) l.desk;
}

-- that on all was, and the first were rolled back
abbrev pub invariant-loop-branch-2 : goal.invariant-loop-branch-2
invariant-loop-branch-2 g l = record {
  leaves : Leaves g.I.Idle.leads l.fn.desk l.desk l.fn.idle l.idle;
  rolls_back : (ended : DeskView) × Chain (CallsFor call.End TMFAIL) l.fn.desk l.branches ended × Chain
      (CallsFor call.Rollback 0) ended (take l.branch-index l.branches) l.desk;
}
