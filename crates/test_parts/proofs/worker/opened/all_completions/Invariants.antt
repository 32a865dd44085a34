use Rattle.xa_base.proofs.{◌≡◌, [], length, All}
use Rattle.xa_worker.specs.{Answering}
use Rattle.test_parts.proofs.worker.opened.all_completions.Given as goal

abbrev pub invariant-loop-thread : goal.invariant-loop-thread
invariant-loop-thread g l = record {
  lanes : length l.senders.items ≡ l.thread;
  sent : All (λ (s : Answering). s.sent ≡ []) l.senders.items;
}
