use Rattle.xa_base.proofs.{◌∙◌, sym}
use Rattle.xa_lane.proofs.Promises.{are_of_lane}
use Rattle.test_parts.proofs.lane.threads.relay.Goals as goal

pub close_lane-requires : goal.close_lane-requires
close_lane-requires g c k d below named =
    let opened = c.in-Ok.ensures.senders in
    are_of_lane (record { opening = 1; kind = 0; index = 1 }) c.in-Ok.receiver.line 8 c.args.senders c.in-Ok.ends.items
    c.in_ok-ended.ended.items opened (c.in_ok-ended.ensures ∙ c.in_ok-handles.ensures) k d below
    ∙ sym c.in_ok-receiver.ensures.1
