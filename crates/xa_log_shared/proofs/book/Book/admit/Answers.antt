use Rattle.xa_base.proofs.{arith, is_missing}
use Rattle.xa_log_shared.proofs.Moves.{moves_push}
use Rattle.xa_log_shared.proofs.Deeds.{new_push}
use Rattle.xa_log_shared.proofs.book.Book.admit.Goals as goal

pub returns-else-is_some-clause-new : goal.returns-else-is_some-clause-new
returns-else-is_some-clause-new g c known = search (arith, is_missing, new_push, c.args.self.now.log, c.has.result)

pub returns-else-is_some-clause-moves : goal.returns-else-is_some-clause-moves
returns-else-is_some-clause-moves g c =
    let self = c.args.self.now in
    moves_push _ self.is_known _ _ self.waiting.items _ (record { from = c.args.from; decision = c.args.decision.now })
    c.push_reserved.ensures.items
