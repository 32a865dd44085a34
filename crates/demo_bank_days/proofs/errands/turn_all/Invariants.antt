use Rattle.xa_base.proofs.{◌≡◌, ◌+◌, [], ◌++◌, map, length, vec_capacity, All, into_iter_items, into_iter_len}
use Rattle.demo_bank_days.specs.{habits_on}
use Rattle.demo_bank_days.proofs.errands.turn_all.Given as goal

-- the first tellers are turned to the first errands
abbrev pub invariant-loop-teller : goal.invariant-loop-teller
invariant-loop-teller g l = record {
  so_far : l.yielded ++ into_iter_items l.teller-iterator ≡ l.fn.tellers.items;
  logs : map (λ t. t.log) l.turned.items ≡ map (λ t. t.log) l.yielded;
  transfers : map (λ t. t.transfers) l.turned.items ++ map (λ e. e.transfers) (into_iter_items l.errands) ≡ map
      (λ e. e.transfers) l.fn.errands.items;
  habits : map (λ t. t.habits) l.turned.items ++ map (habits_on l.first) (into_iter_items l.errands) ≡ map
      (habits_on l.first) l.fn.errands.items;
  none : All (λ t. t.outcomes.items ≡ []) l.turned.items;
  as_many : length l.turned.items ≡ length l.yielded;
  left : length l.yielded + length (into_iter_items l.errands) ≡ length l.fn.errands.items;
  counted : into_iter_len l.errands ≡ length (into_iter_items l.errands);
  all_counted : into_iter_len l.teller-iterator ≡ length (into_iter_items l.teller-iterator);
  room : vec_capacity l.turned ≡ vec_capacity l.fn.turned;
}
