use Rattle.xa_base.proofs.{◌≡◌, take}
use Rattle.xa_store_sqlite.specs.{left_in_slots}
use Rattle.xa_store_sqlite.proofs.opening.left_of.Given as goal

-- the branches of the slots so far
abbrev pub invariant-loop-branch : goal.invariant-loop-branch
invariant-loop-branch l = l.left.items ≡ left_in_slots (take l.branch-index l.branches)
