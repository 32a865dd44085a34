use Rattle.xa_worker.proofs.Ties.{same-chain, stepped_keeps}
use Rattle.xa_worker.proofs.worker.Worker.step.Goals as goal

pub returns-then-not-make_way-clause-seat : goal.returns-then-not-make_way-clause-seat
returns-then-not-make_way-clause-seat g c = stepped_keeps _ _ c.make_way.ensures.same

pub returns-clause-seat : goal.returns-clause-seat
returns-clause-seat g c = stepped_keeps _ _ (same-chain _ _ _ c.make_way.ensures.same c.take_one.ensures.same)
