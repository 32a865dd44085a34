use Rattle.xa_base.proofs.{◌≤◌, ◌+◌, arith, take, take_all, All-push, one_more}
use Rattle.xa_desk.specs.{room_at}
use Rattle.xa_driver.specs.{Branch}
use Rattle.xa_work.specs.{AFTERWARDS, steps_in}
use Rattle.xa_work.proofs.unit.have_room.Goals as goal

pub loop-branch-preserved : goal.loop-branch-preserved
loop-branch-preserved c =
    let bs = c.args.branches.now in
    let i = c.loop-branch.branch-index in
    let b = c.branch-item.result in
    let fits : steps_in c.args.changes.now b.m + AFTERWARDS ≤ room_at c.args.desk.now.ledgers b.m = omega arith in
    rw (one_more bs i b c.loop-branch-test.true c.branch-item.is)
    (All-push (λ (d : Branch). steps_in c.args.changes.now d.m + AFTERWARDS ≤ room_at c.args.desk.now.ledgers d.m)
    (take i bs) b c.loop-branch.invariant fits)

pub returns : goal.returns
returns c = grind (arith, take_all)
