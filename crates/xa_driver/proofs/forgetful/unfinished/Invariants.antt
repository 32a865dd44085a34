use Rattle.xa_base.proofs.{◌≡◌, ◌++◌, ◌+◌, ◌≤◌, drop, length, vec_capacity}
use Rattle.xa_driver.specs.{unfinished}
use Rattle.xa_driver.proofs.forgetful.unfinished.Given as goal

abbrev pub invariant-loop-outcome : goal.invariant-loop-outcome
invariant-loop-outcome l = record {
  done : l.trans.items ++ unfinished (drop l.outcome-index l.outcomes) ≡ unfinished l.outcomes;
  room : length l.trans.items + length (drop l.outcome-index l.outcomes) ≤ vec_capacity l.trans;
}
