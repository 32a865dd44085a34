use Rattle.xa_base.proofs.{◌≡◌, ℕ, ◌<◌, map, vec_capacity, range_with_len}
use Rattle.xa_switch.specs.{new_manager, find_ready, parts_of, reopened_at}
use Rattle.xa_switch.proofs.opening.reopening.reopen_managers.Given as goal

-- the managers so far are reopened, and the others are still there
abbrev pub invariant-loop-before : goal.invariant-loop-before
invariant-loop-before l = record {
  managers : l.managers.items ≡ map (λ m. new_manager l.numbers (reopened_at (parts_of l.initial.carried.items) m))
      (range_with_len 1 l.before);
  room : vec_capacity l.managers ≡ vec_capacity l.initial.managers;
  kept : (m : ℕ) → l.before < m → find_ready m l.carried.items ≡ find_ready m l.initial.carried.items;
}
