use Rattle.xa_log_file.proofs.Stands.{IsRead}
use Rattle.xa_log_file.proofs.opening.read_slots.Given as goal

abbrev pub invariant-loop-place : goal.invariant-loop-place
invariant-loop-place l = IsRead l.place l.count l.table.slots.items l.bytes
