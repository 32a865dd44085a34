use Rattle.xa_base.proofs.{arith, refl, all_handled, each_made, fits_next, next_handled}
use Rattle.xa_crew.proofs.worker_job.stores_apart.Goals as goal

pub push_reserved-requires : goal.push_reserved-requires
push_reserved-requires g c =
    omega (
      arith,
      fits_next c.loop-one.invariant.workers c.in-Some.one c.next.new.self c.in-Some.ensures.steps.0
          c.requires.room,
    )

pub push_reserved-requires-in-loop-one : goal.push_reserved-requires-in-loop-one
push_reserved-requires-in-loop-one g c =
    omega (
      arith,
      fits_next c.loop-one.invariant.stores c.in-Some.one c.next.new.self c.in-Some.ensures.steps.0
          c.requires.store_room,
    )

pub loop-one-preserved : goal.loop-one-preserved
loop-one-preserved g c =
    let one = c.in-Some.one in
    record {
      workers =
          next_handled c.loop-one.invariant.workers one one.done c.next.new.self c.push_reserved.new.self
          c.in-Some.ensures.steps
          c.push_reserved.ensures.items c.push_reserved.ensures.capacity refl;
      stores =
          next_handled c.loop-one.invariant.stores one one.store c.next.new.self c.push_reserved-in-loop-one.new.self
          c.in-Some.ensures.steps
          c.push_reserved-in-loop-one.ensures.items c.push_reserved-in-loop-one.ensures.capacity refl;
    }

pub returns-clause-workers : goal.returns-clause-workers
returns-clause-workers g c =
    each_made (λ x. x.done) _ _ (all_handled c.loop-one.invariant.workers c.in-None.ensures.steps.0)

pub returns-clause-stores : goal.returns-clause-stores
returns-clause-stores g c =
    each_made (λ x. x.store) _ _ (all_handled c.loop-one.invariant.stores c.in-None.ensures.steps.0)
