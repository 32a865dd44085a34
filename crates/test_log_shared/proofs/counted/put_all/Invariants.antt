use Rattle.xa_base.proofs.{◌≡◌, take}
use Rattle.xa_log_shared.specs.{own_records}
use Rattle.test_log_shared.specs.{put_records}
use Rattle.test_log_shared.proofs.counted.put_all.Given as goal

abbrev pub invariant-loop-decision : goal.invariant-loop-decision
invariant-loop-decision l =
    own_records l.records ≡ put_records (own_records l.initial.records) (take l.decision-index l.decisions)
