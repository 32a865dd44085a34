use Rattle.xa_base.proofs.{◌≢◌, ℕ, ◌<◌, get_or}
use Rattle.xa_desk.specs.{EndedView}
use Rattle.xa_switch.proofs.settling.checks.has_desk.Given as goal

abbrev pub invariant-loop-desk : goal.invariant-loop-desk
invariant-loop-desk l = (k : ℕ) (d : EndedView) → k < l.desk-index → (get_or l.desks k d).thread ≢ l.thread
