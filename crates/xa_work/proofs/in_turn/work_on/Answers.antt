use Rattle.xa_base.proofs.{arith, true}
use Rattle.xa_words.specs.{Add, End, Start, Success, Fresh}
use Rattle.xa_work.proofs.Making.{begun_all, begun_elsewhere, begun_here, begun_of, calls_more, calls_none, leaves_on}
use Rattle.xa_work.proofs.in_turn.work_on.Goals as goal
use Rattle.xa_work.proofs.in_turn.work_on.Goals.{then-change-branch, else-change-branch}

pub loop-change-init : goal.loop-change-init
loop-change-init g c = record {
  leaves = record {
    goes_on = c.ask-all.ensures.goes_on;
    kept = c.ask-all.ensures.kept;
    idled = c.ask-all.ensures.idled;
  };
  calls = calls_more _ _ (Start c.args.branch.now.xid Fresh) true c.ask-all.result _ _ _
      (calls_none c.args.branch.now.m c.args.desk.now) c.ask-all.ensures.calls;
}

pub loop-change-preserved : goal.loop-change-preserved
loop-change-preserved g c =
    let i = c.loop-change.change-index in
    let x = c.change-item.result in
    let old = c.args.desk.now in
    let so_far = c.loop-change.invariant in
    elim c.if-change-branch.branch [
      | then-change-branch w ↦
          let one = w.ask-all-then-change-branch in
          record {
            leaves = rw (w.desk-is, w.idle-is)
                (leaves_on c.idles_go_on.ensures.further so_far.leaves one.ensures.goes_on one.ensures.kept
                one.ensures.idled);
            calls =
                rw (
                  w.all-is,
                  w.desk-is,
                  begun_here c.args.changes.now i x c.args.branch.now c.loop-change-test.true
                      c.change-item.is w.if-change-branch.true,
                )
                (calls_more c.args.branch.now.m _ (Add x.key x.delta) c.loop-change.all one.result _ _ _ so_far.calls
                one.ensures.calls);
          }
      | else-change-branch w ↦ record {
        leaves = rw (w.desk-is, w.idle-is) so_far.leaves;
        calls = search (arith, begun_of, begun_elsewhere, c.args.branch.now.m, c.loop-change.all, c.change-item.is);
      }
    ]

pub returns-clause-calls : goal.returns-clause-calls
returns-clause-calls g c =
    let b = c.args.branch.now in
    let cs = c.args.changes.now in
    rw (begun_all cs _ b c.loop-change-test.false) at
    (calls_more b.m _ (End b.xid Success) c.loop-change.all c.ask-ended.result _ _ _ c.loop-change.invariant.calls
    c.ask-ended.ensures.calls)
