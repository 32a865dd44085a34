use Rattle.xa_base.proofs.{not}
use Rattle.xa_log.specs.{is_among}
use Rattle.xa_log_file.specs.{forgets}
use Rattle.xa_log_file.proofs.Places.{MapsBelow}
use Rattle.xa_log_file.proofs.slot_table.forget_others.Given as goal

abbrev pub invariant-loop-place : goal.invariant-loop-place
invariant-loop-place l = MapsBelow (forgets (λ t. not (is_among l.trans t))) l.place l.fn.slots.items l.slots.items
