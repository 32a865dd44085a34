use Rattle.xa_base.proofs.{◌≡◌, ◌≤◌, ◌+◌, take}
use Rattle.xa_work.specs.{steps_in}
use Rattle.xa_work.proofs.in_flight.steps_at.Given as goal

-- the first changes were looked at
abbrev pub invariant-loop-change : goal.invariant-loop-change
invariant-loop-change l =
    record { steps : l.count ≡ steps_in (take l.change-index l.changes) l.manager; few : l.count ≤ l.change-index + 2 }
