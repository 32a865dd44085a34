use Rattle.xa_base.proofs.{◌++◌, arith, length, sym, ap, ◌∙◌, Some, into_iter_items, next_there, all_handled, fits_next}
use Rattle.xa_base.proofs.{next_handled}
use Rattle.xa_jobs.proofs.Threads.{all_done, can_run}
use Rattle.xa_jobs.proofs.hands.Came.done.Goals as goal

pub loop-one-preserved-in-Ok : goal.loop-one-preserved-in-Ok
loop-one-preserved-in-Ok g c =
    next_handled c.loop-one.invariant c.in-Some.one c.in-Ok.one c.next.new.self c.push_reserved.new.self
    c.in-Some.ensures.steps c.push_reserved.ensures.items
    c.push_reserved.ensures.capacity (λ job comes. rw c.in-Ok.is at comes)

pub push_reserved-requires : goal.push_reserved-requires
push_reserved-requires g c =
    omega (
      arith,
      fits_next c.loop-one.invariant c.in-Some.one c.next.new.self c.in-Some.ensures.steps.0
          (omega (arith, c.requires.room.done)),
    )

pub run-requires : goal.run-requires
run-requires g c =
    let first = c.loop-one.yielded in
    let (jobs, ready, comes) = c.requires.ready in
    can_run g.J.Job.comes_to g.J.Job.can_run jobs c.args.self.came.items (length first) c.in-Err.job ready comes
    (next_there c.args.self.came.items first (into_iter_items c.next.new.self) c.in-Some.one
    (ap (λ l. first ++ l) (sym c.in-Some.ensures.steps.0) ∙ c.loop-one.invariant.so_far)
    ∙ ap Some c.in-Err.is)

pub push_reserved-requires-in-Err : goal.push_reserved-requires-in-Err
push_reserved-requires-in-Err g c =
    omega (
      arith,
      fits_next c.loop-one.invariant c.in-Some.one c.next.new.self c.in-Some.ensures.steps.0
          (omega (arith, c.requires.room.done)),
    )

pub loop-one-preserved : goal.loop-one-preserved
loop-one-preserved g c =
    let comes_to = g.J.Job.comes_to in
    next_handled c.loop-one.invariant c.in-Some.one c.run.result c.next.new.self c.push_reserved-in-Err.new.self
    c.in-Some.ensures.steps
    c.push_reserved-in-Err.ensures.items c.push_reserved-in-Err.ensures.capacity
    (λ job comes. rw (rw c.in-Err.is at comes) at c.run.ensures)

pub returns : goal.returns
returns g c jobs comes =
    all_done g.J.Job.comes_to jobs c.args.self.came.items c.loop-one.done.items comes
    (all_handled c.loop-one.invariant c.in-None.ensures.steps.0)
