use Rattle.laws_tables.proofs.PreparedLaw.{commit_tells, rollback_tells}
use Rattle.laws_tables.proofs.branches.only_completed_branches_tell_a_decision.Goals as goal

pub returns-clause-commits : goal.returns-clause-commits
returns-clause-commits c t x d T e = commit_tells t x d T e

pub returns-clause-rolls_back : goal.returns-clause-rolls_back
returns-clause-rolls_back c t x d T e = rollback_tells t x d T e
