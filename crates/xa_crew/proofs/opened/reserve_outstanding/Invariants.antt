use Rattle.xa_base.proofs.{◌≡◌, length, All}
use Rattle.xa_crew.specs.{CanTell}
use Rattle.xa_crew.proofs.opened.reserve_outstanding.Given as goal

-- there is room to tell of so many desks
abbrev pub invariant-loop : goal.invariant-loop
invariant-loop l = record { many : length l.outstanding.items ≡ l.counter; tell : All CanTell l.outstanding.items }
