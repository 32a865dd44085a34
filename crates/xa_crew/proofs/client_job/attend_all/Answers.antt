use Rattle.xa_base.proofs.{[], arith, refl, rules, all_at, all_handled, fits_next, handled_at, next_handled, none_side}
use Rattle.xa_crew.specs.{HasWorked, IsReady}
use Rattle.xa_crew.proofs.client_job.attend_all.Goals as goal

pub loop-job-init : goal.loop-job-init
loop-job-init g c = record {
  worked = record {
    so_far = search rules;
    counted = search rules;
    sides = none_side (HasWorked g.C.Client.works) [] c.args.done.items refl c.requires.none;
    capacity = refl;
  };
  idled = c.idles_go_on.ensures.same _;
}

pub loop-job-preserved : goal.loop-job-preserved
loop-job-preserved g c = record {
  worked =
      next_handled c.loop-job.invariant.worked c.in-Some.job c.attend.result c.next.new.self c.push_reserved.new.self
      c.in-Some.ensures.steps
      c.push_reserved.ensures.items c.push_reserved.ensures.capacity c.attend.ensures.worked;
  idled = g.met.I.Idle.leads_chain _ _ _ c.loop-job.invariant.idled c.attend.ensures.idled;
}

pub attend-requires : goal.attend-requires
attend-requires g c =
    all_at IsReady c.args.jobs.items _ c.in-Some.job c.requires.ready
    (handled_at c.loop-job.invariant.worked c.in-Some.job c.next.new.self c.in-Some.ensures.steps.0)

pub push_reserved-requires : goal.push_reserved-requires
push_reserved-requires g c =
    omega (
      arith,
      fits_next c.loop-job.invariant.worked c.in-Some.job c.next.new.self c.in-Some.ensures.steps.0
          c.requires.room,
    )

pub returns-clause-worked : goal.returns-clause-worked
returns-clause-worked g c = all_handled c.loop-job.invariant.worked c.in-None.ensures.steps.0
