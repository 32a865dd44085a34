use Rattle.xa_base.proofs.{arith, rules, ◌≡◌, None, Option}
use Rattle.xa_driver.proofs.Calls.{no_record, may_record}
use Rattle.xa_driver.proofs.may.may_commit.Goals as goal

pub returns-then-is_known : goal.returns-then-is_known
returns-then-is_known g c = (
  λ yes. (
    may_record c.args.branches.now c.index-branches-0.result c.args.desk.now _
        (c.may_prepare.ensures.0 (search rules)) (search rules) (search rules),
    search rules,
  ),
  λ is. search (arith, no_record c.args.branches.now c.index-branches-0.result c.args.desk.now _ is.0),
)
