use Rattle.xa_base.proofs.{◌≡◌, drop, map}
use Rattle.xa_log.specs.{all_records, record_in}
use Rattle.xa_log.proofs.several.RefSliceDecisionRecords.has.Given as goal

-- what all have of the transaction is what those have that are left
abbrev pub invariant-loop-log : goal.invariant-loop-log
invariant-loop-log g l =
    record_in (all_records (map g.L.DecisionRecords.records l.log-items)) l.tran ≡ record_in
    (all_records (map g.L.DecisionRecords.records (drop l.log-index l.log-items))) l.tran
