use Rattle.xa_base.proofs.{◌≡◌, take}
use Rattle.xa_store_sqlite.specs.{sums_of}
use Rattle.xa_store_sqlite.proofs.opening.sums_of.Given as goal

-- the sums of the changes so far
abbrev pub invariant-loop-place : goal.invariant-loop-place
invariant-loop-place l =
    l.sums.items ≡ sums_of l.mirror.branches.items l.mirror.accounts.items (take l.place l.mirror.changes.items)
