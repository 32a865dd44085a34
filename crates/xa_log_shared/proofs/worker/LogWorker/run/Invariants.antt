use Rattle.xa_base.proofs.{◌≡◌}
use Rattle.xa_log_shared.specs.{Steps}
use Rattle.xa_log_shared.proofs.worker.LogWorker.run.Given as goal

abbrev pub invariant-loop : goal.invariant-loop
invariant-loop g l = record {
  senders : l.worker.asks.senders ≡ l.fn.self.asks.senders;
  steps : Steps l.fn.self.book.deeds.items l.worker.book.deeds.items l.fn.self.book.is_known
      (g.L.DecisionLog.state l.fn.self.book.log) l.worker.book.is_known
      (g.L.DecisionLog.state l.worker.book.log) l.fn.self.book.answers.items l.worker.book.answers.items
      l.fn.self.asks.taken l.worker.asks.taken;
}
