use Rattle.xa_base.proofs.{ℕ, ◌≤◌, ◌<◌, length, get_or}
use Rattle.xa_desk.specs.{EndedView}
use Rattle.xa_switch.specs.{HasWorkers}
use Rattle.xa_switch.proofs.settling.checks.each_has_workers.Given as goal

abbrev pub invariant-loop-desk : goal.invariant-loop-desk
invariant-loop-desk l =
    (k : ℕ) (d : EndedView) → k < l.desk-index
    → HasWorkers (length (get_or l.desks k d).ledgers) l.workers × (length (get_or l.desks k d).ledgers ≤ 8)
