use Rattle.xa_base.proofs.{◌≡◌, ◌+◌, length}
use Rattle.xa_switch.specs.{Each}
use Rattle.xa_switch.proofs.opening.reserve.reserve_workers.Given as goal

-- the parts of the managers so far
abbrev pub invariant-loop-before : goal.invariant-loop-before
invariant-loop-before l =
    record {
      many : length l.parts.items ≡ l.before;
      each : Each (λ k p. p ≡ record { number = k + 1; room = l.room }) l.parts.items;
    }
