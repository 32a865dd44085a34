use Rattle.xa_base.proofs.{ℕ, ◌≤◌}
use Rattle.xa_base.specs.{IsUpTo}
use Rattle.xa_desk.specs.{room_at}
use Rattle.xa_scan.specs.{left_at}
use Rattle.xa_driver.specs.{requests_for}
use Rattle.xa_driver.proofs.resolving.may_resolve.Given as goal

-- there is room at the managers so far
abbrev pub invariant-loop-before : goal.invariant-loop-before
invariant-loop-before g l = (m : ℕ) → IsUpTo l.before m → requests_for (left_at l.scan m) ≤ room_at l.desk.ledgers m
