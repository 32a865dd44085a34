use Rattle.xa_base.proofs.{IfErr-weaker, IfOk-weaker}
use Rattle.xa_crew.proofs.opened.settle_stored.Goals as goal

pub settle_run-requires : goal.settle_run-requires
settle_run-requires g c =
    let (p, cs, all) = c.requires.ran in (
      p,
      cs,
      rw (c.apart-clients.ensures.clients, c.apart-clients.ensures.desks, c.stores_apart-workers.ensures.workers)
          all,
    )

pub returns : goal.returns
returns g c =
    record {
      ran = IfOk-weaker c.settle_run.result _ _ (λ r settles p cs all. settles p cs
          (rw (c.apart-clients.ensures.clients, c.apart-clients.ensures.desks, c.stores_apart-workers.ensures.workers)
          all)) c.settle_run.ensures.run;
      managers = rw (← c.stores_apart-workers.ensures.workers) c.settle_run.ensures.managers;
      unsettled = IfErr-weaker c.settle_run.result _ _ (λ r back p cs all. back p cs
          (rw (c.apart-clients.ensures.clients, c.apart-clients.ensures.desks, c.stores_apart-workers.ensures.workers)
          all)) c.settle_run.ensures.back;
      workers = rw (← c.stores_apart-workers.ensures.workers) c.settle_run.ensures.workers;
      stores = c.stores_apart-workers.ensures.stores;
    }
