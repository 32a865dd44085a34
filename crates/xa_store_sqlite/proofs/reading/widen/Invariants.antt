use Rattle.xa_base.proofs.{◌≡◌, ◌++◌, None, replicate}
use Rattle.xa_store_sqlite.proofs.reading.widen.Given as goal

-- so many free slots were put
abbrev pub invariant-loop : goal.invariant-loop
invariant-loop l = l.branches.items ≡ l.fn.branches.items ++ replicate l.counter None
