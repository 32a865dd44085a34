use Rattle.xa_base.proofs.{◌≡◌, Some, length, take, All}
use Rattle.xa_switch.specs.{parts_of}
use Rattle.xa_switch.proofs.opening.reopening.reserve_managers.Given as goal

-- the managers so far have their memory
abbrev pub invariant-loop-place : goal.invariant-loop-place
invariant-loop-place l = record {
  parts : parts_of l.managers.items ≡ parts_of l.initial.managers.items;
  many : length l.managers.items ≡ length l.initial.managers.items;
  reserved : All (λ c. c.reserved ≡ Some (l.threads, l.room)) (take l.place l.managers.items);
}
