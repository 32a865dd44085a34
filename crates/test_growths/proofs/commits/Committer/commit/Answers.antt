use Rattle.std.proofs.Common.{◌∙◌, sym, subst}
use Rattle.xa_driver.specs.{MayCommit}
use Rattle.test_growths.proofs.commits.Committer.commit.Goals as goal

pub commit-requires-clause-may : goal.commit-requires-clause-may
commit-requires-clause-may g c =
    subst (MayCommit c.args.self.now.desk c.args.self.now.log.state) (c.as_slice.ensures ∙ sym c.as_slice-2.ensures)
    (c.may_commit.ensures.0 c.if-not-may_commit.false).0
