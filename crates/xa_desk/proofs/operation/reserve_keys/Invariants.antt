use Rattle.xa_base.proofs.{◌≡◌, replicate}
use Rattle.xa_desk.specs.{no_keys}
use Rattle.xa_desk.proofs.operation.reserve_keys.Given as goal

abbrev pub invariant-loop-manager : goal.invariant-loop-manager
invariant-loop-manager l = l.rows.items ≡ replicate l._manager (no_keys l.plan)
