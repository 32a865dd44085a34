use Rattle.xa_base.proofs.{◌≡◌, None, replicate}
use Rattle.xa_store_sqlite.proofs.reading.new_mirror.Given as goal

-- so many accounts have no change
abbrev pub invariant-loop : goal.invariant-loop
invariant-loop l = l.changes.items ≡ replicate l.counter None
