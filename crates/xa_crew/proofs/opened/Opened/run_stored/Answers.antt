use Rattle.xa_base.proofs.{map, refl, ap, ◌∙◌}
use Rattle.xa_crew.specs.{clients_of}
use Rattle.xa_crew.proofs.Pieces.{still_opened}
use Rattle.xa_crew.proofs.Stores.{all_have_run_stored, keep_last, kept_after, kept_by_workers}
use Rattle.xa_crew.proofs.opened.Opened.run_stored.Goals as goal

pub settle_stored-ran-requires-clause-ran : goal.settle_stored-ran-requires-clause-ran
settle_stored-ran-requires-clause-ran g c =
    let (p, is, keep) = c.requires.opened in (
      p,
      clients_of c.args.self,
      all_have_run_stored g.S.Store.knows g.S.Store.may_leave g.C.Client.works p c.args.self _ _ _ is
          c.in-Ok-do_all.ensures.jobs
          c.worker_jobs_of-worker_jobs.ensures.workers c.in-Ok-do_all.ensures.others,
    )

pub returns-in-Ok-ran-clause-ran : goal.returns-in-Ok-ran-clause-ran
returns-in-Ok-ran-clause-ran g c p is =
    (rw c.in-Ok-ran.is at c.settle_stored-ran.ensures.ran) p (clients_of c.args.self)
    (all_have_run_stored g.S.Store.knows g.S.Store.may_leave g.C.Client.works p c.args.self _ _ _ is
    c.in-Ok-do_all.ensures.jobs c.worker_jobs_of-worker_jobs.ensures.workers c.in-Ok-do_all.ensures.others)

pub returns-in-Ok-ran-clause-kept : goal.returns-in-Ok-ran-clause-kept
returns-in-Ok-ran-clause-kept g c =
    let (p, is, keep) = c.requires.opened in
    keep_last g.S.Store.knows g.S.Store.may_leave _ c.in-Ok-do_all.stored.items _
    (rw c.in-Ok-ran.is at c.settle_stored-ran.ensures.managers)
    (kept_after g.S.Store.knows g.S.Store.may_leave p c.args.self _ _ _ _ is keep
    c.worker_jobs_of-worker_jobs.ensures.workers
    c.worker_jobs_of-worker_jobs.ensures.stores c.in-Ok-do_all.ensures.others c.settle_stored-ran.ensures.stores)

pub returns-in-Ok-do_all-clause-unsettled : goal.returns-in-Ok-do_all-clause-unsettled
returns-in-Ok-do_all-clause-unsettled g c p is =
    (rw c.in-Err-ran.is at c.settle_stored-ran.ensures.unsettled) p (clients_of c.args.self)
    (all_have_run_stored g.S.Store.knows g.S.Store.may_leave g.C.Client.works p c.args.self _ _ _ is
    c.in-Ok-do_all.ensures.jobs c.worker_jobs_of-worker_jobs.ensures.workers c.in-Ok-do_all.ensures.others)

pub returns-in-Ok-do_all-clause-kept_so : goal.returns-in-Ok-do_all-clause-kept_so
returns-in-Ok-do_all-clause-kept_so g c =
    let (p, is, keep) = c.requires.opened in
    kept_by_workers g.S.Store.knows g.S.Store.may_leave _ c.in-Ok-do_all.stored.items _
    (rw c.in-Err-ran.is at c.settle_stored-ran.ensures.workers)
    (kept_after g.S.Store.knows g.S.Store.may_leave p c.args.self _ _ _ _ is keep
    c.worker_jobs_of-worker_jobs.ensures.workers
    c.worker_jobs_of-worker_jobs.ensures.stores c.in-Ok-do_all.ensures.others c.settle_stored-ran.ensures.stores)

pub returns-clause-unstarted : goal.returns-clause-unstarted
returns-clause-unstarted g c =
    let jobs = c.in-Err.ensures.back.0 in
    let workers =
    c.workers_of-workers.ensures.workers ∙ ap (map _) c.in-Err.ensures.back.1
    ∙ c.worker_jobs_of-worker_jobs.ensures.workers in
    (ap (map _) jobs, λ p is. still_opened p c.args.self _ jobs workers refl is)
