use Rattle.laws_balances.proofs.Legs.{unsent_law, unrecorded_nowhere}
use Rattle.laws_balances.proofs.called.branches_that_are_not_told_to_commit_are_not_committed.Goals as goal

pub returns-clause-unsent : goal.returns-clause-unsent
returns-clause-unsent c = unsent_law

pub returns-clause-unrecorded : goal.returns-clause-unrecorded
returns-clause-unrecorded c = unrecorded_nowhere
