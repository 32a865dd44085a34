use Rattle.xa_base.proofs.{arith, next_place, refl, rules, subst, taken_next}
use Rattle.xa_jobs.proofs.Threads.{all_gone_through, fits_one_more, one_more_at, one_more_other}
use Rattle.xa_jobs.proofs.hands.Hands.start.Goals as goal

-- ---- room for one more

pub push_reserved-requires : goal.push_reserved-requires
push_reserved-requires g c =
    let i = c.loop-job.invariant in
    omega (
      arith,
      i.others,
      c.requires.room.others,
      fits_one_more g.J.Job.comes_to i.started c.in-Some.ensures.steps.0
          i.so_far,
    )

pub push_reserved-requires-in-Ok : goal.push_reserved-requires-in-Ok
push_reserved-requires-in-Ok g c =
    let i = c.loop-job.invariant in
    omega (
      arith,
      i.hands,
      c.requires.room.hands,
      fits_one_more g.J.Job.comes_to i.started c.in-Some.ensures.steps.0
          i.so_far,
    )

pub push_reserved-requires-in-Err : goal.push_reserved-requires-in-Err
push_reserved-requires-in-Err g c =
    let i = c.loop-job.invariant in
    omega (
      arith,
      i.others,
      c.requires.room.others,
      fits_one_more g.J.Job.comes_to i.started c.in-Some.ensures.steps.0
          i.so_far,
    )

-- ---- one more

pub loop-job-preserved-then-not-all : goal.loop-job-preserved-then-not-all
loop-job-preserved-then-not-all g c =
    let i = c.loop-job.invariant in
    record {
      so_far = taken_next c.loop-job.yielded _ _ _ c.in-Some.job c.in-Some.ensures.steps.0 i.so_far;
      started = rw c.push_reserved.ensures.items (one_more_other g.J.Job.comes_to _ _ _ c.in-Some.job _ i.started refl);
      all = λ e. search (rules, c.if-not-all.true);
      hands = i.hands;
      others = omega (arith, c.push_reserved.ensures.capacity, i.others);
      came = i.came;
      done = i.done;
      back = i.back;
    }

pub loop-job-preserved-in-Ok : goal.loop-job-preserved-in-Ok
loop-job-preserved-in-Ok g c =
    let i = c.loop-job.invariant in
    record {
      so_far = taken_next c.loop-job.yielded _ _ _ c.in-Some.job c.in-Some.ensures.steps.0 i.so_far;
      started = rw c.push_reserved-in-Ok.ensures.items
          (one_more_at g.J.Job.comes_to _ _ _ c.in-Some.job c.in-Ok.hand (i.all c.if-not-all.false) i.started
          c.in-Ok.ensures.started);
      all = i.all;
      hands = omega (arith, c.push_reserved-in-Ok.ensures.capacity, i.hands);
      others = i.others;
      came = i.came;
      done = i.done;
      back = i.back;
    }

pub loop-job-preserved : goal.loop-job-preserved
loop-job-preserved g c =
    let i = c.loop-job.invariant in
    record {
      so_far = taken_next c.loop-job.yielded _ _ _ c.in-Some.job c.in-Some.ensures.steps.0 i.so_far;
      started = rw c.push_reserved-in-Err.ensures.items
          (one_more_other g.J.Job.comes_to _ _ _ c.in-Some.job c.in-Err.other i.started c.in-Err.ensures.refused);
      all = λ e. search rules;
      hands = i.hands;
      others = omega (arith, c.push_reserved-in-Err.ensures.capacity, i.others);
      came = i.came;
      done = i.done;
      back = i.back;
    }

pub start_one-requires-after_bounds : goal.start_one-requires-after_bounds
start_one-requires-after_bounds g c _ _ =
    let (below, is) =
    next_place c.loop-job.yielded _ _ c.args.jobs.items c.in-Some.job c.in-Some.ensures.steps.0
    c.loop-job.invariant.so_far in
    subst g.J.Job.can_run is (c.requires.ready _ c.in-Some.job below)

pub returns-clause-started : goal.returns-clause-started
returns-clause-started g c =
    rw (all_gone_through c.loop-job.job-iterator c.loop-job.yielded c.loop-job.invariant.so_far
    c.in-None.ensures.steps.0) at c.loop-job.invariant.started
