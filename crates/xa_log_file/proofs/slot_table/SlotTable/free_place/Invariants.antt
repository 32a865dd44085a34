use Rattle.xa_base.proofs.{◌≡◌}
use Rattle.xa_log_file.specs.{HasNoFree}
use Rattle.xa_log_file.proofs.slot_table.SlotTable.free_place.Given as goal

abbrev pub invariant-loop-place : goal.invariant-loop-place
invariant-loop-place l =
    record { same : l.self.slots.items ≡ l.fn.self.slots.items; none : HasNoFree l.self.slots.items l.place }
