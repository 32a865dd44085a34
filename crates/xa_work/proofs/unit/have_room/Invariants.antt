use Rattle.xa_base.proofs.{take}
use Rattle.xa_work.specs.{HaveRoomToWork}
use Rattle.xa_work.proofs.unit.have_room.Given as goal

-- there is room for the work of the first
abbrev pub invariant-loop-branch : goal.invariant-loop-branch
invariant-loop-branch l = HaveRoomToWork l.desk.ledgers l.changes (take l.branch-index l.branches)
