use Rattle.xa_base.proofs.{arith, map_alike, all_handled, fits_next, next_handled}
use Rattle.xa_worker.specs.{seat_of_worker, seat_of_done}
use Rattle.xa_crew.specs.{HasServed}
use Rattle.xa_crew.proofs.turns.Turns.run.Goals as goal

pub push_reserved-requires : goal.push_reserved-requires
push_reserved-requires g c =
    omega (
      arith,
      fits_next c.loop-worker.invariant c.in-Some.worker c.next.new.self c.in-Some.ensures.steps.0
          (omega (arith, c.requires.room)),
    )

pub loop-worker-preserved : goal.loop-worker-preserved
loop-worker-preserved g c =
    next_handled c.loop-worker.invariant c.in-Some.worker c.run.result c.next.new.self c.push_reserved.new.self
    c.in-Some.ensures.steps
    c.push_reserved.ensures.items c.push_reserved.ensures.capacity
    (record { same = c.run.ensures.same; served = c.run.ensures.served; seat = c.run.ensures.seat })

pub returns-clause-served : goal.returns-clause-served
returns-clause-served g c = all_handled c.loop-worker.invariant c.in-None.ensures.steps.0

pub returns-clause-seats : goal.returns-clause-seats
returns-clause-seats g c =
    map_alike HasServed seat_of_worker seat_of_done (λ w d is. is.seat) c.args.self c.loop-worker.done.items
    (returns-clause-served g c)
