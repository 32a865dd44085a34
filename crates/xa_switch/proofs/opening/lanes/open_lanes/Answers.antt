use Rattle.xa_base.proofs.{map, vec_capacity, arith, length-map}
use Rattle.xa_switch.proofs.Dealing.{room_more, room_stays, length_senders, one_more_lane}
use Rattle.xa_switch.proofs.opening.lanes.open_lanes.Goals as goal

pub deal-columns-requires-clause-row : goal.deal-columns-requires-clause-row
deal-columns-requires-clause-row g c = grind (arith, length-map, length_senders)

pub deal-columns-requires-clause-room : goal.deal-columns-requires-clause-room
deal-columns-requires-clause-room g c =
    room_more (λ v. v.items) (λ v. vec_capacity v) c.loop-before.columns.items c.loop-before.before c.args.lanes
    c.loop-before.invariant.lanes.deep c.loop-before.invariant.deep (omega arith)

pub loop-before-preserved : goal.loop-before-preserved
loop-before-preserved g c =
    let i = c.loop-before.invariant in
    let opened = c.in-Ok.ensures in
    record {
      lanes =
          rw (c.deal-columns.ensures.dealt, c.push_reserved.ensures.items)
          (one_more_lane c.args.opening c.args.kind c.args.senders c.loop-before.before c.args.room
          (map (λ v. v.items) c.loop-before.columns.items) c.loop-before.receivers.items c.in-Ok.ends.items
          c.in-Ok.receiver i.lanes opened.senders opened.receiver);
      deep = room_stays (λ v. vec_capacity v) c.loop-before.columns.items c.deal-columns.result.items c.args.lanes
          c.deal-columns.ensures.capacity i.deep;
      room = let stays = c.push_reserved.ensures.capacity in let room = i.room in omega (arith, stays, room);
    }
