use Rattle.xa_base.proofs.{◌≡◌, ◌≤◌, length, take, filter_map}
use Rattle.xa_tables.specs.{sum_at}
use Rattle.xa_tables.proofs.accounts.put_sums.Given as goal

-- the sums at the places so far, no more of them than places
abbrev pub invariant-loop-place : goal.invariant-loop-place
invariant-loop-place l =
    (l.sums.items ≡ filter_map (sum_at l.xid l.accounts) (take l.place-index l.held))
    × (length l.sums.items ≤ l.place-index)
