use Rattle.xa_base.proofs.{◌≡◌, ◌<◌, ℕ, true, false, get_or}
use Rattle.xa_log_shared.proofs.worker.LogWorker.is_finished.Given as goal

abbrev pub invariant-loop-place : goal.invariant-loop-place
invariant-loop-place g l = (k : ℕ) → k < l.place → get_or l.self.ended k false ≡ true
