use Rattle.xa_base.proofs.{◌≡◌, ◌∙◌, ap, arith, length, take_all}
use Rattle.xa_store_sqlite.specs.{sums_of}
use Rattle.xa_store_sqlite.proofs.LeftOver.{next_sum}
use Rattle.xa_store_sqlite.proofs.opening.sums_of.Goals as goal

pub loop-place-preserved : goal.loop-place-preserved
loop-place-preserved c =
    let m = c.args.mirror.now in
    next_sum m.branches.items m.accounts.items m.changes.items c.loop-place.place c.index.result.now
    c.loop-place.sums.items c.push_sum.new.sums.items
    (omega (arith, c.loop-place-test.true, c.len-place-end.ensures)) c.index.ensures c.loop-place.invariant
    c.in_ok-push_sum.ensures
