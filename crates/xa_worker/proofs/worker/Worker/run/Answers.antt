use Rattle.xa_base.proofs.{◌∙◌, refl, sym, [], append-nil}
use Rattle.xa_worker.proofs.Ties.{unpaced, paces_on, stepped_keeps, same-chain, extends-chain, stepped-extends}
use Rattle.xa_worker.proofs.worker.Worker.run.Goals as goal

pub loop-preserved : goal.loop-preserved
loop-preserved g c = record {
  same = same-chain c.args.self c.loop.worker c.step.new.self c.loop.invariant.same c.step.ensures.same;
  journal = extends-chain c.args.self.journal c.loop.worker.journal c.step.new.self.journal c.loop.invariant.journal
      (stepped-extends _ _ c.loop.worker c.step.result c.step.new.self c.step.ensures.step);
  paced = paces_on g.P.Pace.told _ _ _ _ _ _ c.loop.invariant.paced c.step.ensures.paced;
  stored = λ s. c.step.ensures.stored (c.loop.invariant.stored s);
}

pub loop-preserved-in-Empty : goal.loop-preserved-in-Empty
loop-preserved-in-Empty g c = record {
  same = same-chain c.args.self c.loop.worker c.step.new.self c.loop.invariant.same c.step.ensures.same;
  journal = extends-chain c.args.self.journal c.loop.worker.journal c.step.new.self.journal c.loop.invariant.journal
      (stepped-extends _ _ c.loop.worker c.step.result c.step.new.self c.step.ensures.step);
  paced = paces_on g.P.Pace.told _ _ _ _ _ _ c.loop.invariant.paced c.step.ensures.paced;
  stored = λ s. c.step.ensures.stored (c.loop.invariant.stored s);
}

pub returns-clause-paced : goal.returns-clause-paced
returns-clause-paced g c =
    paces_on g.P.Pace.told _ _ _ _ _ _ c.loop.invariant.paced (unpaced g.P.Pace.told _ _ _ c.end.ensures.journal)

pub returns-clause-seat : goal.returns-clause-seat
returns-clause-seat g c = c.end.ensures.seat ∙ stepped_keeps _ _ c.loop.invariant.same

pub loop-init : goal.loop-init
loop-init g c = record {
  same = record { number = refl; first = refl; threads = refl; receiver = (refl, refl, refl, refl); lanes = refl };
  journal = ([], sym (append-nil c.args.self.journal));
  paced = unpaced g.P.Pace.told _ _ _ refl;
  stored = λ s. s;
}

pub returns-clause-same : goal.returns-clause-same
returns-clause-same g c =
    let a = c.loop.invariant.same in
    let b = c.end.ensures.same in
    record {
      number = b.number ∙ a.number;
      first = b.first ∙ a.first;
      threads = b.threads ∙ a.threads;
      receiver = (
        b.receiver.0 ∙ a.receiver.0,
        b.receiver.1 ∙ a.receiver.1,
        b.receiver.2 ∙ a.receiver.2,
        b.receiver.3
            ∙ a.receiver.3,
      );
      lanes = b.lanes ∙ a.lanes;
      journal = extends-chain c.args.self.journal c.loop.worker.journal c.end.result.journal c.loop.invariant.journal
          b.journal;
    }

pub returns-clause-known : goal.returns-clause-known
returns-clause-known g c stored =
    let known = rw (← c.worker-2.view_is) at ((c.loop.invariant.stored stored).known) in
    rw (c.end.ensures.manager, ← c.worker-2.view_is) (c.settle_owed.ensures.known known)

pub returns-clause-settled : goal.returns-clause-settled
returns-clause-settled g c stored =
    let known = rw (← c.worker-2.view_is) at ((c.loop.invariant.stored stored).known) in
    rw (c.end.ensures.manager, ← c.worker-2.view_is) (c.settle_owed.ensures.settled known)
