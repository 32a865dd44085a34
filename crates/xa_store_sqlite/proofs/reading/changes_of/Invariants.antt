use Rattle.xa_base.proofs.{◌≡◌, map, option_map, take}
use Rattle.xa_store_sqlite.specs.{AreOwnedBy, change_cells}
use Rattle.xa_store_sqlite.proofs.reading.changes_of.Given as goal

-- the changes of the rows so far
abbrev pub invariant-loop-slot : goal.invariant-loop-slot
invariant-loop-slot l = record {
  changes : map (λ c. option_map change_cells c) l.changes.items ≡ take l.slot l.slots;
  owned : AreOwnedBy l.branches l.changes.items;
}
