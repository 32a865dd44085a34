use Rattle.xa_base.proofs.{◌≤◌}
use Rattle.xa_switch.specs.{HasDesks}
use Rattle.xa_switch.proofs.settling.checks.has_desks.Given as goal

abbrev pub invariant-loop-before : goal.invariant-loop-before
invariant-loop-before l = HasDesks l.before l.desks × (l.before ≤ 8)
