use Rattle.xa_base.proofs.{ℕ, ◌<◌, get_or}
use Rattle.xa_log.specs.{CommitRecord}
use Rattle.xa_log_file.specs.{HasNoName}
use Rattle.xa_log_file.proofs.slot_table.SlotTable.are_unnamed.Given as goal

abbrev pub invariant-loop-decision : goal.invariant-loop-decision
invariant-loop-decision l =
    (k : ℕ) (d : CommitRecord) → k < l.decision-index → HasNoName l.self.slots.items (get_or l.decisions k d).tran
