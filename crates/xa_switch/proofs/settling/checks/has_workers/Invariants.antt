use Rattle.xa_switch.specs.{HasWorkers}
use Rattle.xa_switch.proofs.settling.checks.has_workers.Given as goal

abbrev pub invariant-loop-before : goal.invariant-loop-before
invariant-loop-before l = HasWorkers l.before l.workers
