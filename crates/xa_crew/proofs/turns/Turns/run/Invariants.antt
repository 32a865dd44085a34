use Rattle.xa_base.proofs.{vec_capacity, Handled}
use Rattle.xa_crew.specs.{HasServed}
use Rattle.xa_crew.proofs.turns.Turns.run.Given as goal

-- the first workers have run
abbrev pub invariant-loop-worker : goal.invariant-loop-worker
invariant-loop-worker g l = Handled HasServed l.fn.self l.yielded l.worker-iterator l.done (vec_capacity l.fn.done)
