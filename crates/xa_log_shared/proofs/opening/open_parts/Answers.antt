use Rattle.xa_base.proofs.{pushed_all, ◌≡◌, ◌≤◌, [], true, ap, arith, ◌∙◌, spare, common_steps, map-append}
use Rattle.xa_log.specs.{no_records}
use Rattle.xa_log_shared.specs.Asking.{LaneFromWorker}
use Rattle.xa_log_shared.specs.{own_records}
use Rattle.xa_log_shared.proofs.Own.{as_many}
use Rattle.xa_log_shared.proofs.opening.open_parts.Goals as goal

pub loop-sender-init : goal.loop-sender-init
loop-sender-init g c =
    search (arith, as_many, c.into_iter-sender-iterator.ensures.into_iter_gives, c.in_ok-senders.ensures.senders)

pub loop-sender-preserved : goal.loop-sender-preserved
loop-sender-preserved g c = record {
  so_far = grind (arith, common_steps);
  counted = grind (arith, common_steps);
  count = grind (arith, common_steps);
  clients = grind (arith, common_steps);
  asks = grind (arith, common_steps, map-append, c.in_ok-new_client.ensures.lanes, c.loop-sender.invariant.asks);
  lines = grind (arith, common_steps, map-append, c.in_ok-new_client.ensures.lanes, c.loop-sender.invariant.lines);
  all = c.loop-sender.invariant.all;
  sent =
      pushed_all (λ s. s.sent ≡ []) c.loop-sender.answers.items c.push.new.self.items c.in_ok-to.to
      c.in_ok-push.ensures.items
      c.loop-sender.invariant.sent c.in_ok-to.ensures.sent;
  new =
      pushed_all
      (λ e. (own_records e.records ≡ no_records.records) × (e.is_known ≡ true) × (e.room ≡ c.args.room)
      × (c.args.room ≤ spare e.records) ×
      (e.answers.taken ≡ []))
      c.loop-sender.clients.items c.push-in-loop-sender.new.self.items c.in_ok-new_client.field-0
      c.in_ok-push-2.ensures.items c.loop-sender.invariant.new (
        c.in_ok-new_client.ensures.none,
        c.in_ok-new_client.ensures.known,
        c.in_ok-new_client.ensures.room.0,
        c.in_ok-new_client.ensures.room.1,
        ap
            (λ (r : LaneFromWorker). r.taken) c.in_ok-new_client.ensures.lanes.1 ∙ c.in_ok-to.ensures.taken,
      );
}
