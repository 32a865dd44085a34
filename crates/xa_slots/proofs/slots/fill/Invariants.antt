use Rattle.std.proofs.Common.{◌≡◌, length}
use Rattle.xa_slots.specs.{rows_from}
use Rattle.xa_slots.proofs.slots.fill.Given as goal

abbrev pub invariant-loop : goal.invariant-loop
invariant-loop l = record {
  rows : rows_from 1 l.slots.items ≡ rows_from 1 l.fn.slots.items;
  count : length l.slots.items ≡ l.counter;
}
