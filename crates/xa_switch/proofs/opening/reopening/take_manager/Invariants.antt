use Rattle.xa_base.proofs.{◌≡◌, ◌≢◌, take, All}
use Rattle.xa_switch.proofs.opening.reopening.take_manager.Given as goal

-- none of those before has the number
abbrev pub invariant-loop-place : goal.invariant-loop-place
invariant-loop-place l = record {
  same : l.managers.items ≡ l.initial.managers.items;
  none : All (λ c. c.part.number ≢ l.number) (take l.place l.managers.items);
}
