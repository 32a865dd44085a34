use Rattle.xa_base.proofs.{◌≡◌, map, option_map, take}
use Rattle.xa_store_sqlite.specs.{branch_cells}
use Rattle.xa_store_sqlite.proofs.reading.branches_of.Given as goal

-- the branches of the rows so far
abbrev pub invariant-loop-slot : goal.invariant-loop-slot
invariant-loop-slot l = map (λ b. option_map branch_cells b) l.branches.items ≡ take l.slot l.slots
