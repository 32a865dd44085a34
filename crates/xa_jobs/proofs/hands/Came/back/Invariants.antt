use Rattle.xa_base.proofs.{vec_capacity, Handled}
use Rattle.xa_jobs.proofs.Threads.{IsBackAs}
use Rattle.xa_jobs.proofs.hands.Came.back.Given as goal

-- it waits
abbrev pub invariant-loop : goal.invariant-loop
invariant-loop g l = Unit {0}

-- the first have come back
abbrev pub invariant-loop-one : goal.invariant-loop-one
invariant-loop-one g l =
    Handled (IsBackAs g.J.Job.comes_to) l.fn.self.came.items l.yielded l.one-iterator l.back
    (vec_capacity l.fn.self.back)
