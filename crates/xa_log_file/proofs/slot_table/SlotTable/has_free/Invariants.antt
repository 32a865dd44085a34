use Rattle.xa_base.proofs.{◌≡◌, ◌+◌, ◌≤◌, take}
use Rattle.xa_log_file.specs.{used}
use Rattle.xa_log_file.proofs.slot_table.SlotTable.has_free.Given as goal

abbrev pub invariant-loop-place : goal.invariant-loop-place
invariant-loop-place l =
    record { few : l.left ≤ l.count; sum : l.place + l.left ≡ used (take l.place l.self.slots.items) + l.count }
