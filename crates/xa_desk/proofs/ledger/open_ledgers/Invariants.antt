use Rattle.xa_base.proofs.{◌≡◌, map, take}
use Rattle.xa_desk.specs.{new_ledger}
use Rattle.xa_desk.proofs.ledger.open_ledgers.Given as goal

-- the ledgers so far
abbrev pub invariant-loop-carries_async : goal.invariant-loop-carries_async
invariant-loop-carries_async l =
    l.ledgers.items ≡ map (λ carries. new_ledger carries l.requests) (take l.carries_async-index l.use_async)
