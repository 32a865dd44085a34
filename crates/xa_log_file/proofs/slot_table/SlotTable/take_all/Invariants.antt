use Rattle.xa_base.proofs.{◌≡◌, length, drop}
use Rattle.xa_log_file.specs.{placed, HasFreeSlots}
use Rattle.xa_log_file.proofs.slot_table.SlotTable.take_all.Given as goal

abbrev pub invariant-loop-decision : goal.invariant-loop-decision
invariant-loop-decision l = record {
  rest : placed l.self.slots.items (drop l.decision-index l.decisions) ≡ placed l.fn.self.slots.items l.decisions;
  room : HasFreeSlots l.self.slots.items (length (drop l.decision-index l.decisions));
}
