use Rattle.xa_base.proofs.{◌≡◌, ◌++◌, length, vec_capacity, into_iter_items, into_iter_len}
use Rattle.demo_bank_days.specs.{AreClosed}
use Rattle.demo_bank_days.proofs.days.close_days.Given as goal

-- the first days were closed
abbrev pub invariant-loop-errands : goal.invariant-loop-errands
invariant-loop-errands g l = record {
  so_far : l.yielded ++ into_iter_items l.errands-iterator ≡ l.fn.days.items;
  closed : AreClosed g.L.DecisionLog.state g.L.DecisionRecords.knows g.L.DecisionLog.loses g.L.ReopenLog.reopens
      l.fn.bank l.yielded l.closed.items l.bank;
  as_many : length l.closed.items ≡ length l.yielded;
  all_counted : into_iter_len l.errands-iterator ≡ length (into_iter_items l.errands-iterator);
  room : vec_capacity l.closed ≡ vec_capacity l.initial.closed;
}
