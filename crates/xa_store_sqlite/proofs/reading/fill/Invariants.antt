use Rattle.xa_base.proofs.{◌≡◌, length}
use Rattle.xa_slots.specs.{rows_from}
use Rattle.xa_store_sqlite.proofs.reading.fill.Given as goal

-- the slots so far have the rows that there were
abbrev pub invariant-loop : goal.invariant-loop
invariant-loop l = record {
  rows : rows_from 1 l.slots.items ≡ rows_from 1 l.fn.slots.items;
  count : length l.slots.items ≡ l.counter;
}
