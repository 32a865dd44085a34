use Rattle.xa_base.proofs.{refl}
use Rattle.xa_worker.specs.{working_of, IsTiedWorker}
use Rattle.xa_worker.proofs.Ties.{unentered, tied_out}
use Rattle.xa_worker.proofs.Lanes.{lanes-flushes}
use Rattle.xa_worker.proofs.Storing.{all_durable}
use Rattle.xa_worker.proofs.worker.Worker.make_way.Given.{Over}
use Rattle.xa_worker.proofs.worker.Worker.make_way.Goals as goal
use Rattle.xa_worker.proofs.worker.Worker.make_way.Goals.{Joined-send_settled}

-- those that waited were offered
tied : (g : Over) (c : Joined-send_settled g)
    → IsTiedWorker (record (working_of c.self.inside) { out = c.send_settled.new.out })
tied g c =
    tied_out (working_of c.self.inside) c.send_settled.new.out
    (lanes-flushes c.self.inside.out c.send_settled.new.out c.send_settled.ensures.flushed)
    c.send_settled.ensures.put c.self.invariant.tied

pub invariant_of-self : goal.invariant_of-self
invariant_of-self g c = unentered _ _ c.self.invariant refl refl refl refl (λ s. refl) (tied g c)

pub returns-clause-same : goal.returns-clause-same
returns-clause-same g c =
    rw (← c.self.view_is)
    (record {
      number = refl;
      first = refl;
      threads = refl;
      receiver = (refl, refl, refl, refl);
      lanes = lanes-flushes c.self.inside.out c.send_settled.new.out c.send_settled.ensures.flushed;
    })

pub returns-clause-stored : goal.returns-clause-stored
returns-clause-stored g c stored =
    let known = rw (← c.self.view_is) at stored.known in
    all_durable _ _ _ (tied g c) (c.send_settled.ensures.known known) (c.send_settled.ensures.settled known)
