use Rattle.xa_base.proofs.{◌≡◌, ◌++◌, map, length, All, into_iter_items, into_iter_len}
use Rattle.xa_switch.specs.{column, IsClosed}
use Rattle.xa_switch.proofs.settling.closing.close_lanes.Given as goal

abbrev pub invariant-loop-place : goal.invariant-loop-place
invariant-loop-place g l = record {
  so_far : l.yielded ++ into_iter_items l.place-iterator ≡ into_iter_items l.initial.place-iterator;
  counted : into_iter_len l.place-iterator ≡ length (into_iter_items l.place-iterator);
  closed : All (λ r. IsClosed r.1 (column (map (λ c. c.items) l.fn.columns.items) r.0)) l.yielded;
  left : All (λ r. column (map (λ c. c.items) l.columns.items) r.0 ≡ column (map (λ c. c.items) l.fn.columns.items) r.0)
      (into_iter_items l.place-iterator);
  many : length l.columns.items ≡ length l.fn.columns.items;
}
