use Rattle.xa_base.proofs.{◌≡◌, ◌<◌, ◌≤◌, All, None, length, take}
use Rattle.xa_base.specs.declared.limits.TheConstants.{MOST_VALUE}
use Rattle.xa_slots.specs.{rows_from}
use Rattle.xa_store_sqlite.specs.{item_at}
use Rattle.xa_store_sqlite.proofs.ReadRows.{slots_in}
use Rattle.xa_store_sqlite.proofs.reading.accounts_of.Given as goal

-- the accounts of the slots so far, of which the first that is free comes after them
abbrev pub invariant-loop-slot : goal.invariant-loop-slot
invariant-loop-slot l = record {
  rows : rows_from 1 (slots_in l.accounts.items) ≡ rows_from 1 (take l.slot l.slots);
  small : All (λ a. a.1 ≤ MOST_VALUE) l.accounts.items;
  within : length l.accounts.items ≤ l.slot;
  free : length l.accounts.items < l.slot → item_at l.slots (length l.accounts.items) ≡ None;
}
