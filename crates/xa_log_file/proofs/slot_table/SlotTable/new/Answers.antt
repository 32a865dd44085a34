use Rattle.xa_base.proofs.{arith, length-replicate}
use Rattle.xa_log_file.proofs.Places.{new_index}
use Rattle.xa_log_file.proofs.slot_table.SlotTable.new.Goals as goal

pub invariant_of-result : goal.invariant_of-result
invariant_of-result c = search (arith, length-replicate, new_index)
