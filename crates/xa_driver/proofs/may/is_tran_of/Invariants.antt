use Rattle.xa_base.proofs.{drop, ◌↔◌}
use Rattle.xa_driver.specs.{IsTranOf}
use Rattle.xa_driver.proofs.may.is_tran_of.Given as goal

abbrev pub invariant-loop-branch : goal.invariant-loop-branch
invariant-loop-branch l = IsTranOf l.branches l.tran ↔ IsTranOf (drop l.branch-index l.branches) l.tran
