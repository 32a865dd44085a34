use Rattle.xa_base.proofs.{drop, ◌↔◌}
use Rattle.xa_driver.specs.{HaveRoom}
use Rattle.xa_driver.proofs.may.have_room.Given as goal

abbrev pub invariant-loop-branch : goal.invariant-loop-branch
invariant-loop-branch l = HaveRoom l.desk.ledgers l.branches ↔ HaveRoom l.desk.ledgers (drop l.branch-index l.branches)
