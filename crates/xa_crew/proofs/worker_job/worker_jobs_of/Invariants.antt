use Rattle.xa_base.proofs.{◌≡◌, vec_capacity, Handled, TakenBeside}
use Rattle.xa_crew.proofs.worker_job.worker_jobs_of.Given as goal

-- the first workers have the first paces and the first stores
abbrev pub invariant-loop-worker : goal.invariant-loop-worker
invariant-loop-worker g l = record {
  workers : Handled (λ w j. j.worker ≡ w) l.fn.workers.items l.yielded l.worker-iterator l.worker_jobs
      (vec_capacity l.fn.worker_jobs);
  paces : TakenBeside (λ j. j.pace) l.fn.paces.items l.worker_jobs.items l.paces;
  stores : TakenBeside (λ j. j.store) l.fn.stores.items l.worker_jobs.items l.stores;
}
