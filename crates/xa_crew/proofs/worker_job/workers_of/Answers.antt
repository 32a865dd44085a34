use Rattle.xa_base.proofs.{arith, refl, all_handled, each_made, fits_next, next_handled}
use Rattle.xa_crew.proofs.worker_job.workers_of.Goals as goal

pub push_reserved-requires : goal.push_reserved-requires
push_reserved-requires g c =
    omega (
      arith,
      fits_next c.loop-worker_job.invariant.workers c.in-Some.worker_job c.next.new.self
          c.in-Some.ensures.steps.0 c.requires.room,
    )

pub push_reserved-requires-in-loop-worker_job : goal.push_reserved-requires-in-loop-worker_job
push_reserved-requires-in-loop-worker_job g c =
    omega (
      arith,
      fits_next c.loop-worker_job.invariant.stores c.in-Some.worker_job c.next.new.self
          c.in-Some.ensures.steps.0 c.requires.store_room,
    )

pub loop-worker_job-preserved : goal.loop-worker_job-preserved
loop-worker_job-preserved g c =
    let one = c.in-Some.worker_job in
    record {
      workers =
          next_handled c.loop-worker_job.invariant.workers one one.worker c.next.new.self c.push_reserved.new.self
          c.in-Some.ensures.steps
          c.push_reserved.ensures.items c.push_reserved.ensures.capacity refl;
      stores =
          next_handled c.loop-worker_job.invariant.stores one one.store c.next.new.self
          c.push_reserved-in-loop-worker_job.new.self c.in-Some.ensures.steps
          c.push_reserved-in-loop-worker_job.ensures.items c.push_reserved-in-loop-worker_job.ensures.capacity refl;
    }

pub returns-clause-workers : goal.returns-clause-workers
returns-clause-workers g c =
    each_made (λ x. x.worker) _ _ (all_handled c.loop-worker_job.invariant.workers c.in-None.ensures.steps.0)

pub returns-clause-stores : goal.returns-clause-stores
returns-clause-stores g c =
    each_made (λ x. x.store) _ _ (all_handled c.loop-worker_job.invariant.stores c.in-None.ensures.steps.0)
