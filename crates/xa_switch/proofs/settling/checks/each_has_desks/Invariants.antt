use Rattle.xa_base.proofs.{ℕ, ◌≤◌, ◌<◌, get_or}
use Rattle.xa_worker.specs.{Served}
use Rattle.xa_switch.specs.{HasDesks}
use Rattle.xa_switch.proofs.settling.checks.each_has_desks.Given as goal

abbrev pub invariant-loop-worker : goal.invariant-loop-worker
invariant-loop-worker l =
    (k : ℕ) (d : Served) → k < l.worker-index
    → HasDesks (get_or l.workers k d).manager.threads l.desks × ((get_or l.workers k d).manager.threads ≤ 8)
