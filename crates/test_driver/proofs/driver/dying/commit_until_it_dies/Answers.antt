use Rattle.xa_base.proofs.{refl}
use Rattle.xa_driver.specs.{endings_known}
use Rattle.laws_commit.specs.{commit_call}
use Rattle.test_driver.proofs.driver.dying.commit_until_it_dies.Goals as goal

pub returns-in-Ok-Died-clause-cut : goal.returns-in-Ok-Died-clause-cut
returns-in-Ok-Died-clause-cut g c t =
    let may = c.requires.may in
    let later = g.L.DecisionLog.state c.commit.new.log in
    c.commits_are_cuts.ensures
    (commit_call t c.args.branches.now c.args.desk.now c.commit.new.desk.ledgers (g.L.DecisionLog.state c.args.log.now)
    later (endings_known c.in-Ok-Died.known))
    may.tran later _ c.in-Ok-Died.field-0 may may.one c.in-Ok-Died.ensures.managers
    (c.in-Ok-Died.ensures.comes may.tran may.one)
    (rw c.in-Ok-Died.field-0-is refl) (rw c.in-Ok-Died.field-0-is refl)
