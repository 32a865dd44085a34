use Rattle.xa_base.proofs.{◌≡◌, ◌≤◌, ◌*◌}
use Rattle.xa_driver.specs.{left_up_to}
use Rattle.xa_driver.proofs.resolving.count_left.Given as goal

-- those of the managers so far are counted
abbrev pub invariant-loop-before : goal.invariant-loop-before
invariant-loop-before l =
    record { so_far : l.count ≡ left_up_to l.scan l.before; bound : l.count ≤ l.before * 4294967295 }
