use Rattle.xa_base.proofs.{◌≡◌, vec_capacity, Handled}
use Rattle.xa_crew.proofs.worker_job.workers_of.Given as goal

-- the workers and the stores of the first ones
abbrev pub invariant-loop-worker_job : goal.invariant-loop-worker_job
invariant-loop-worker_job g l = record {
  workers : Handled (λ x w. w ≡ x.worker) l.fn.worker_jobs.items l.yielded l.worker_job-iterator l.workers
      (vec_capacity l.fn.workers);
  stores : Handled (λ x s. s ≡ x.store) l.fn.worker_jobs.items l.yielded l.worker_job-iterator l.stores
      (vec_capacity l.fn.stores);
}
