use Rattle.xa_base.proofs.{◌≡◌, ◌+◌, length}
use Rattle.xa_switch.specs.{Each, desk_parts}
use Rattle.xa_switch.proofs.opening.reserve.reserve_desks.Given as goal

-- the parts of the threads so far
abbrev pub invariant-loop-before : goal.invariant-loop-before
invariant-loop-before l =
    record {
      many : length l.parts.items ≡ l.before;
      each : Each (λ k p. p ≡ desk_parts l.numbers l.use_async (k + 1)) l.parts.items;
    }
