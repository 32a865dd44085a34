use Rattle.xa_base.proofs.{arith, all_handled, fits_next, next_handled}
use Rattle.xa_jobs.proofs.Threads.{all_back}
use Rattle.xa_jobs.proofs.hands.Came.back.Goals as goal

pub loop-one-preserved : goal.loop-one-preserved
loop-one-preserved g c =
    next_handled c.loop-one.invariant c.in-Some.one c.in-Err.job c.next.new.self c.push_reserved.new.self
    c.in-Some.ensures.steps c.push_reserved.ensures.items
    c.push_reserved.ensures.capacity (λ job comes. rw c.in-Err.is at comes)

pub push_reserved-requires : goal.push_reserved-requires
push_reserved-requires g c =
    omega (
      arith,
      fits_next c.loop-one.invariant c.in-Some.one c.next.new.self c.in-Some.ensures.steps.0
          (omega (arith, c.requires.room.back)),
    )

pub returns : goal.returns
returns g c jobs comes =
    all_back g.J.Job.comes_to jobs c.args.self.came.items c.loop-one.back.items comes
    (all_handled c.loop-one.invariant c.in-None.ensures.steps.0)
