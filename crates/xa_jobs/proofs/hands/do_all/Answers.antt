use Rattle.xa_base.proofs.{◌∙◌, ap, arith, subst}
use Rattle.xa_jobs.specs.{HasRoomForJobs}
use Rattle.xa_jobs.proofs.Threads.{room_for_all, room_to_join}
use Rattle.xa_jobs.proofs.hands.do_all.Goals as goal

-- ---- the threads

pub start-all-requires-clause-room : goal.start-all-requires-clause-room
start-all-requires-clause-room g c _ _ =
    subst (λ n. HasRoomForJobs n c.in-Ok.hands) (omega (arith, c.len.ensures)) c.in-Ok.ensures.jobs

pub start-all_others-requires-clause-room : goal.start-all_others-requires-clause-room
start-all_others-requires-clause-room g c _ _ =
    subst (λ n. HasRoomForJobs n c.in-Ok.other_hands) (omega (arith, c.len-2.ensures)) c.in-Ok.ensures.others

pub join-came-requires-clause-none : goal.join-came-requires-clause-none
join-came-requires-clause-none g c _ _ =
    ap (λ came. came.items) c.start-all.ensures.came ∙ c.in-Ok.ensures.jobs.none_came

pub join-came-requires-clause-room : goal.join-came-requires-clause-room
join-came-requires-clause-room g c _ _ =
    room_to_join g.J.Job.comes_to c.start-all.new.self c.in-Ok.ensures.jobs (omega (arith, c.len.ensures))
    c.start-all.ensures.came c.start-all.ensures.started

pub join-others_came-requires-clause-none : goal.join-others_came-requires-clause-none
join-others_came-requires-clause-none g c _ _ =
    ap (λ came. came.items) c.start-all_others.ensures.came ∙ c.in-Ok.ensures.others.none_came

pub join-others_came-requires-clause-room : goal.join-others_came-requires-clause-room
join-others_came-requires-clause-room g c _ _ =
    room_to_join g.K.Job.comes_to c.start-all_others.new.self c.in-Ok.ensures.others (omega (arith, c.len-2.ensures))
    c.start-all_others.ensures.came c.start-all_others.ensures.started

-- ---- the first kind

pub done-requires-clause-room : goal.done-requires-clause-room
done-requires-clause-room g c =
    room_for_all g.J.Job.comes_to c.in-Ok.ensures.jobs (omega (arith, c.len.ensures))
    (c.join-came.ensures.done ∙ c.start-all.ensures.done)
    (c.join-came.ensures.back ∙ c.start-all.ensures.back)
    (c.join-came.ensures.came c.args.jobs.items c.start-all.ensures.started)

pub done-requires-clause-ready : goal.done-requires-clause-ready
done-requires-clause-ready g c =
    (c.args.jobs.items, c.requires.jobs, c.join-came.ensures.came c.args.jobs.items c.start-all.ensures.started)

pub back-requires : goal.back-requires
back-requires g c = record {
  room =
      room_for_all g.J.Job.comes_to c.in-Ok.ensures.jobs (omega (arith, c.len.ensures))
      (c.join-came.ensures.done ∙ c.start-all.ensures.done)
      (c.join-came.ensures.back ∙ c.start-all.ensures.back)
      (c.join-came.ensures.came c.args.jobs.items c.start-all.ensures.started);
}

pub returns-in-Some-clause-jobs : goal.returns-in-Some-clause-jobs
returns-in-Some-clause-jobs g c =
    c.done.ensures c.args.jobs.items (c.join-came.ensures.came c.args.jobs.items c.start-all.ensures.started)

-- ---- the other kind

pub done-requires-in-Some-clause-room : goal.done-requires-in-Some-clause-room
done-requires-in-Some-clause-room g c =
    room_for_all g.K.Job.comes_to c.in-Ok.ensures.others (omega (arith, c.len-2.ensures))
    (c.join-others_came.ensures.done ∙ c.start-all_others.ensures.done)
    (c.join-others_came.ensures.back ∙ c.start-all_others.ensures.back)
    (c.join-others_came.ensures.came c.args.others.items c.start-all_others.ensures.started)

pub done-requires-in-Some-clause-ready : goal.done-requires-in-Some-clause-ready
done-requires-in-Some-clause-ready g c = (
  c.args.others.items,
  c.requires.others,
  c.join-others_came.ensures.came c.args.others.items
      c.start-all_others.ensures.started,
)

pub back-requires-in-None : goal.back-requires-in-None
back-requires-in-None g c = record {
  room =
      room_for_all g.K.Job.comes_to c.in-Ok.ensures.others (omega (arith, c.len-2.ensures))
      (c.join-others_came.ensures.done ∙ c.start-all_others.ensures.done)
      (c.join-others_came.ensures.back ∙ c.start-all_others.ensures.back)
      (c.join-others_came.ensures.came c.args.others.items c.start-all_others.ensures.started);
}

pub returns-in-Some-clause-others : goal.returns-in-Some-clause-others
returns-in-Some-clause-others g c =
    c.done-in-Some.ensures c.args.others.items
    (c.join-others_came.ensures.came c.args.others.items c.start-all_others.ensures.started)

-- ---- where all came back

pub returns-clause-back : goal.returns-clause-back
returns-clause-back g c = (
  c.back.ensures c.args.jobs.items (c.join-came.ensures.came c.args.jobs.items c.start-all.ensures.started),
  c.back-in-None.ensures c.args.others.items
      (c.join-others_came.ensures.came c.args.others.items c.start-all_others.ensures.started),
)
