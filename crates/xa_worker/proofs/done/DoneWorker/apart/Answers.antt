use Rattle.xa_worker.proofs.Lanes.{ordered}
use Rattle.xa_worker.proofs.done.DoneWorker.apart.Goals as goal

pub returns-clause-ordered : goal.returns-clause-ordered
returns-clause-ordered c = ordered _ (rw c.self.view_is at c.self.invariant.served)
