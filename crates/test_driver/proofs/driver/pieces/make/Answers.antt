use Rattle.test_driver.proofs.driver.pieces.make.Goals as goal

pub commit-requires-clause-may : goal.commit-requires-clause-may
commit-requires-clause-may g c = (c.may_commit.ensures.0 c.if-not-may_commit.false).0

pub returns-clause-made : goal.returns-clause-made
returns-clause-made g c =
    let may = (c.may_commit.ensures.0 c.if-not-may_commit.false).0 in
    let comes = rw c.in-Ok-Decided.field-0-is at (c.in-Ok-Decided.ensures.comes may.tran may.one) in
    rw (c.of-before.ensures, c.of.ensures, c.of-log_before.ensures, c.of-2.ensures)
    (record { may = may; trace = record { course = comes.1; managers = c.in-Ok-Decided.ensures.managers } })
