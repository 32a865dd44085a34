use Rattle.xa_base.proofs.{arith, length-map}
use Rattle.xa_log_file.proofs.Places.{forgets_indexed, forgets_none_free, forgets_used}
use Rattle.xa_log_file.proofs.slot_table.SlotTable.keep_only.Goals as goal

pub invariant_of-self : goal.invariant_of-self
invariant_of-self c =
    rw c.forget_others.ensures (search (arith, forgets_indexed, forgets_none_free, forgets_used, length-map))
