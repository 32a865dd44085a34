use Rattle.xa_base.proofs.{drop, ◌↔◌}
use Rattle.xa_driver.specs.{AreBranchesRising}
use Rattle.xa_driver.proofs.may.are_rising.Given as goal

abbrev pub invariant-loop-branch : goal.invariant-loop-branch
invariant-loop-branch l = AreBranchesRising 0 l.branches ↔ AreBranchesRising l.last (drop l.branch-index l.branches)
