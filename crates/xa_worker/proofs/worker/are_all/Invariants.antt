use Rattle.xa_worker.specs.{AreSet}
use Rattle.xa_worker.proofs.worker.are_all.Given as goal

abbrev pub invariant-loop-thread : goal.invariant-loop-thread
invariant-loop-thread l = AreSet l.thread l.ended
