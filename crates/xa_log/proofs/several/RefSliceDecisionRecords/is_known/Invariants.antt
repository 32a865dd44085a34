use Rattle.xa_base.proofs.{drop, All, ◌↔◌}
use Rattle.xa_log.proofs.several.RefSliceDecisionRecords.is_known.Given as goal

-- all are known where those are that are left
abbrev pub invariant-loop-log : goal.invariant-loop-log
invariant-loop-log g l =
    All g.L.DecisionRecords.knows l.log-items ↔ All g.L.DecisionRecords.knows (drop l.log-index l.log-items)
