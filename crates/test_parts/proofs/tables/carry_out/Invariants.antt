use Rattle.xa_base.proofs.{◌≡◌}
use Rattle.test_parts.proofs.tables.carry_out.Given as goal

-- the manager's threads stay
abbrev pub invariant-loop-op : goal.invariant-loop-op
invariant-loop-op g l = l.manager.threads ≡ l.initial.manager.threads
