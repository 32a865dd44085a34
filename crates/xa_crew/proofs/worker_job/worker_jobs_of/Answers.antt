use Rattle.xa_base.proofs.{arith, refl, sym, ◌∙◌, all_beside, all_handled, each_part, fewer_made, fits_next}
use Rattle.xa_base.proofs.{next_beside, next_handled, some_beside}
use Rattle.xa_crew.specs.{WorkerJob}
use Rattle.xa_crew.proofs.worker_job.worker_jobs_of.Goals as goal

pub push_reserved-requires : goal.push_reserved-requires
push_reserved-requires g c =
    omega (
      arith,
      fits_next c.loop-worker.invariant.workers c.in-Some.worker c.next.new.self c.in-Some.ensures.steps.0
          c.requires.room,
    )

pub loop-worker-preserved : goal.loop-worker-preserved
loop-worker-preserved g c =
    let i = c.loop-worker.invariant in
    let job : WorkerJob g.row.P.Denot g.row.S.Denot =
    record { worker = c.in-Some.worker; pace = c.in-Some-next.pace; store = c.in-Some-next-2.store } in
    let pushed = c.push_reserved.ensures.items in
    record {
      workers =
          next_handled i.workers job.worker job c.next.new.self c.push_reserved.new.self c.in-Some.ensures.steps pushed
          c.push_reserved.ensures.capacity refl;
      paces = next_beside i.paces job c.push_reserved.new.self.items c.next-in-loop-worker.new.self
          c.in-Some-next.ensures.cases pushed;
      stores = next_beside i.stores job c.push_reserved.new.self.items c.next-in-loop-worker-2.new.self
          c.in-Some-next-2.ensures.cases pushed;
    }

-- a worker is left, so a pace is, and a store
pub unreachable-requires : goal.unreachable-requires
unreachable-requires g c =
    let fewer = fewer_made c.loop-worker.invariant.workers c.in-Some.worker c.next.new.self c.in-Some.ensures.steps.0 in
    some_beside c.loop-worker.invariant.paces (omega (arith, fewer, c.requires.paces)) c.in_default.ensures.cases.0

pub unreachable-requires-in_default-next : goal.unreachable-requires-in_default-next
unreachable-requires-in_default-next g c =
    let fewer = fewer_made c.loop-worker.invariant.workers c.in-Some.worker c.next.new.self c.in-Some.ensures.steps.0 in
    some_beside c.loop-worker.invariant.stores (omega (arith, fewer, c.requires.stores))
    c.in_default-next.ensures.cases.0

pub returns-clause-workers : goal.returns-clause-workers
returns-clause-workers g c =
    each_part (λ j. j.worker) _ _ (all_handled c.loop-worker.invariant.workers c.in-None.ensures.steps.0)

pub returns-clause-stores : goal.returns-clause-stores
returns-clause-stores g c =
    let workers = all_handled c.loop-worker.invariant.workers c.in-None.ensures.steps.0 in
    all_beside c.loop-worker.invariant.stores (workers.as_many ∙ sym c.requires.stores)
