use Rattle.xa_base.proofs.{arith, ◌+◌, refl}
use Rattle.xa_words.specs.{OpenRm}
use Rattle.xa_work.specs.{IsOpenRm}
use Rattle.xa_work.proofs.Sent.{op_sent, have_none, have_on}
use Rattle.xa_work.proofs.Making.{opens_more, opens_none, leaves_none, leaves_on}
use Rattle.xa_work.proofs.opening.open_all.Goals as goal

pub loop-before-init : goal.loop-before-init
loop-before-init g c = search (arith, opens_none, have_none, leaves_none, c.idles_go_on.ensures.same)

pub loop-before-preserved : goal.loop-before-preserved
loop-before-preserved g c = record {
  leaves = leaves_on c.idles_go_on.ensures.further c.loop-before.invariant.leaves c.open_one-all.ensures.goes_on
      c.open_one-all.ensures.kept c.open_one-all.ensures.idled;
  opens = opens_more _ _ c.open_one-all.result _ _ _ c.loop-before.invariant.opens c.open_one-all.ensures.calls;
  sent = have_on _ _ _ c.loop-before.invariant.sent
      (op_sent IsOpenRm (c.loop-before.before + 1) OpenRm c.open_one-all.result _ _ refl c.open_one-all.ensures.calls);
}
