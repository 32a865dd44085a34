use Rattle.xa_base.proofs.{◌≡◌, vec_capacity, Handled}
use Rattle.xa_crew.proofs.worker_job.stores_apart.Given as goal

-- the workers and the stores of the first ones
abbrev pub invariant-loop-one : goal.invariant-loop-one
invariant-loop-one g l = record {
  workers : Handled (λ x w. w ≡ x.done) l.fn.stored.items l.yielded l.one-iterator l.workers
      (vec_capacity l.fn.workers);
  stores : Handled (λ x s. s ≡ x.store) l.fn.stored.items l.yielded l.one-iterator l.stores (vec_capacity l.fn.stores);
}
