use Rattle.xa_base.proofs.{arith, get_or_default}
use Rattle.xa_log_file.proofs.Places.{used_next, none_free_used, room_for, slot_indexed}
use Rattle.xa_log_file.proofs.slot_table.SlotTable.has_free.Goals.{in-Free, in_default}
use Rattle.xa_log_file.proofs.slot_table.SlotTable.has_free.Goals as goal

pub loop-place-init : goal.loop-place-init
loop-place-init c = search (arith, none_free_used)

pub returns-then-left-eq0-clause-room : goal.returns-then-left-eq0-clause-room
returns-then-left-eq0-clause-room c = λ yes_.
    search (
      arith,
      room_for c.args.self.now.slots.items c.loop-place.place c.args.count,
      c.args.self.now.slots.ok.0,
      c.len-place-end.ensures,
    )

pub loop-place-preserved : goal.loop-place-preserved
loop-place-preserved c = search (arith, used_next, in-Free, slot_indexed, in_default, get_or_default)
