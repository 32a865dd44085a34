use Rattle.xa_store_sqlite.proofs.LeftOver.{next_left}
use Rattle.xa_store_sqlite.proofs.opening.left_of.Goals as goal

pub loop-branch-preserved : goal.loop-branch-preserved
loop-branch-preserved c =
    next_left c.args.branches.now c.loop-branch.branch-index c.branch-item.result c.loop-branch.left.items
    c.push_left.new.left.items c.loop-branch-test.true c.branch-item.is
    c.loop-branch.invariant c.in_ok-push_left.ensures
