use Rattle.test_driver.proofs.driver.forgetful.commit_and_die.Goals as goal

pub commit-requires-clause-may : goal.commit-requires-clause-may
commit-requires-clause-may g c = (c.may_commit.ensures.0 c.if-not-may_commit.false).0
