use Rattle.xa_base.proofs.{◌∙◌, ap, arith, length}
use Rattle.xa_worker.proofs.Lanes.{sent_more}
use Rattle.xa_worker.proofs.outbox.Outbox.flush.Goals as goal

pub loop-place-preserved : goal.loop-place-preserved
loop-place-preserved g c =
    let first = c.if-not-send_first.ensures.first in
    record {
      sent = sent_more c.args.self.now c.loop-place.self c.send_first.new.self c.loop-place.invariant.sent first;
      put = λ k. c.send_first.ensures.put k ∙ c.loop-place.invariant.put k;
      left = let fewer = ap length first.waits in let left = c.loop-place.invariant.left in omega (arith, fewer, left);
    }
