use Rattle.std.proofs.Common.{◌≡◌, drop, take}
use Rattle.xa_slots.proofs.slots.cells_of.Given as goal

abbrev pub invariant-loop-at : goal.invariant-loop-at
invariant-loop-at l = l.cells ≡ drop 1 (take l.at l.row)
