use Rattle.xa_base.proofs.{◌≡◌, ◌+◌, ◌≤◌, take, from_entries}
use Rattle.xa_tables.specs.{branch_fault}
use Rattle.xa_tables.proofs.Restoring.{IsFineBefore}
use Rattle.xa_tables.proofs.restored.put_left.Given as goal

-- the branches so far, none of which has a fault, and room for the others
abbrev pub invariant-loop-xid : goal.invariant-loop-xid
invariant-loop-xid l =
    (l.branches.states ≡ from_entries (take l.xid-index l.left))
    × (l.initial.branches.spare ≤ l.branches.spare + l.xid-index)
    × IsFineBefore branch_fault l.left l.xid-index
