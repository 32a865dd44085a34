use Rattle.xa_base.proofs.{◌≡◌, ◌++◌, vec_capacity, into_iter_items, Handled}
use Rattle.xa_jobs.proofs.Threads.{Brings}
use Rattle.xa_jobs.proofs.hands.Hands.join.Given as goal

-- the first threads have ended, each with what became of its job
abbrev pub invariant-loop-hand : goal.invariant-loop-hand
invariant-loop-hand g l =
    Handled (Brings g.J.Job.comes_to) l.fn.self.hands.items l.yielded l.hand-iterator l.came
    (vec_capacity l.fn.self.came)

-- and what became of the first of the others stands after that
abbrev pub invariant-loop-other : goal.invariant-loop-other
invariant-loop-other g l = record {
  so_far : l.yielded ++ into_iter_items l.other-iterator ≡ l.fn.self.others.items;
  came : l.came.items ≡ l.initial.came.items ++ l.yielded;
  room : vec_capacity l.came ≡ vec_capacity l.fn.self.came;
}
