use Rattle.xa_base.proofs.{arith}
use Rattle.xa_desk.proofs.Ties.{call_known, called_desk}
use Rattle.xa_desk.proofs.GoingOn.{goes_called, collects_stays, called_leaves, leaves_seen}
use Rattle.xa_desk.proofs.desk.Desk.call.Goals as goal

-- the slot beyond the handles is free again
pub invariant_of-self : goal.invariant_of-self
invariant_of-self g c =
    let sent = c.send_waiting-operation.ensures.sent in
    let called =
    called_desk _ _ sent.0 c.args.manager c.args.op.now (rw c.self.view_is c.in_default.ensures) sent.1
    c.self.invariant.1 in
    let stays = collects_stays _ _ _ _ c.wait_until.ensures.collected in
    let fewer = c.wait_until.ensures.collected.fewer in (
      omega (arith, fewer, c.send_waiting-operation.ensures.more, stays.goes_on.handles, called.1, c.self.invariant.0),
      stays.tied called.0,
    )

pub returns-clause-goes_on : goal.returns-clause-goes_on
returns-clause-goes_on g c =
    let sent = c.send_waiting-operation.ensures.sent in
    rw (← c.self.view_is)
    (goes_called sent.0 _ _ _ c.args.manager c.args.op.now _ _ sent.1 c.wait_until.ensures.collected)

pub returns-clause-tickets : goal.returns-clause-tickets
returns-clause-tickets g c =
    let sent = c.send_waiting-operation.ensures.sent in
    leaves_seen _ _ _ c.self.view_is
    (called_leaves sent.0 _ _ _ c.args.manager c.args.op.now _ _
    (call_known c.self.inside.book c.args.manager (rw c.self.view_is c.in_default.ensures)) sent.1
    c.send_waiting-operation.ensures.named c.wait_until.ensures.collected)
