use Rattle.test_driver.proofs.driver.dying.die.Goals as goal

pub commit_until_it_dies-requires-clause-may : goal.commit_until_it_dies-requires-clause-may
commit_until_it_dies-requires-clause-may g c = (c.may_commit.ensures.0 c.if-not-may_commit.false).0

pub returns-clause-cut : goal.returns-clause-cut
returns-clause-cut g c =
    rw (c.of-before.ensures, c.of.ensures, c.of-log_before.ensures, c.of-2.ensures) c.in-Some.ensures.cut
