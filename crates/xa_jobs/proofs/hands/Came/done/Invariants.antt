use Rattle.xa_base.proofs.{vec_capacity, Handled}
use Rattle.xa_jobs.proofs.Threads.{IsDoneAs}
use Rattle.xa_jobs.proofs.hands.Came.done.Given as goal

-- the first are done
abbrev pub invariant-loop-one : goal.invariant-loop-one
invariant-loop-one g l =
    Handled (IsDoneAs g.J.Job.comes_to) l.fn.self.came.items l.yielded l.one-iterator l.done
    (vec_capacity l.fn.self.done)
