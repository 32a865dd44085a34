use Rattle.xa_base.proofs.{◌≡◌, true, length}
use Rattle.xa_log.specs.{AreNew}
use Rattle.xa_log_shared.specs.{HasNoted, records_waiting, Works}
use Rattle.xa_log_shared.proofs.worker.gather.Given as goal

abbrev pub invariant-loop : goal.invariant-loop
invariant-loop g l = record {
  noted : HasNoted l.ended l.asks.taken;
  lanes : l.asks.senders ≡ l.initial.asks.senders;
  len : length l.book.answers.items ≡ length l.initial.book.answers.items;
  new : l.book.is_known ≡ true → AreNew (g.L.DecisionLog.state l.book.log) (records_waiting l.book.waiting.items);
  works : Works l.initial.book.deeds.items l.book.deeds.items l.initial.book.is_known
      (g.L.DecisionLog.state l.initial.book.log) l.book.is_known
      (g.L.DecisionLog.state l.book.log) l.initial.book.answers.items l.book.answers.items l.initial.book.waiting.items
      l.book.waiting.items
      l.initial.asks.taken l.asks.taken;
}
