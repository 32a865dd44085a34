use Rattle.xa_base.proofs.{IfErr-weaker, IfOk-weaker}
use Rattle.xa_crew.specs.{clients_of}
use Rattle.xa_crew.proofs.Pieces.{all_have_run}
use Rattle.xa_crew.proofs.WorkersOn.{all_served}
use Rattle.xa_crew.proofs.opened.Opened.run_in_turns.Goals as goal

pub settle_run-requires : goal.settle_run-requires
settle_run-requires g c =
    let (p, is) = c.requires in
    let goes = rw c.new-turns.ensures at c.attend_all-worked.ensures.idled in
    let served =
    all_served c.args.self.workers.items c.attend_all-worked.new.idle c.run-workers.result.items goes
    c.run-workers.ensures.served in (
      p,
      clients_of c.args.self,
      all_have_run g.C.Client.works c.args.self is c.attend_all-worked.ensures.worked
          c.apart-clients.ensures.clients c.apart-clients.ensures.desks served,
    )

pub returns : goal.returns
returns g c =
    let goes = rw c.new-turns.ensures at c.attend_all-worked.ensures.idled in
    let served =
    all_served c.args.self.workers.items c.attend_all-worked.new.idle c.run-workers.result.items goes
    c.run-workers.ensures.served in
    record {
      ran = IfOk-weaker c.settle_run.result _ _ (λ r settles p is. settles p (clients_of c.args.self)
          (all_have_run g.C.Client.works c.args.self is c.attend_all-worked.ensures.worked
          c.apart-clients.ensures.clients c.apart-clients.ensures.desks served))
          c.settle_run.ensures.run;
      unsettled = IfErr-weaker c.settle_run.result _ _ (λ r back p is. back p (clients_of c.args.self)
          (all_have_run g.C.Client.works c.args.self is c.attend_all-worked.ensures.worked
          c.apart-clients.ensures.clients c.apart-clients.ensures.desks served))
          c.settle_run.ensures.back;
    }
