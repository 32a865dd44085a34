use Rattle.xa_base.proofs.{arith, none_of}
use Rattle.xa_log_shared.proofs.Moves.{steps_closed}
use Rattle.xa_log_shared.proofs.worker.LogWorker.step.Goals as goal

pub returns-clause-steps : goal.returns-clause-steps
returns-clause-steps g c =
    steps_closed
    (none_of c.args.self.now.book.waiting.items
    (omega (arith, c.args.self.now.closed, c.args.self.now.book.waiting.ok.0)))
    c.close_group.ensures.none
    c.gather-step.ensures.works c.close_group.ensures.moves
