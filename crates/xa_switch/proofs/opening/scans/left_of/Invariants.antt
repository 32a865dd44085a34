use Rattle.xa_base.proofs.{◌≡◌, ◌+◌, length, map, vec_capacity}
use Rattle.xa_switch.specs.{reopened_at, Each}
use Rattle.xa_tables.specs.{AreLeft}
use Rattle.xa_switch.proofs.opening.scans.left_of.Given as goal

-- the lists so far have what is left at their managers
abbrev pub invariant-loop-before : goal.invariant-loop-before
invariant-loop-before l = record {
  counted : length l.lists.items ≡ l.before;
  room : vec_capacity l.lists ≡ vec_capacity l.initial.lists;
  each : Each (λ k xs. AreLeft xs (reopened_at l.settled.managers (k + 1))) (map (λ xs. xs.items) l.lists.items);
}
