use Rattle.xa_desk.proofs.GoingOn.{released_leaves, leaves_seen}
use Rattle.xa_desk.proofs.desk.Desk.redeem.Goals as goal

pub returns-clause-tickets : goal.returns-clause-tickets
returns-clause-tickets c =
    leaves_seen _ _ _ c.self.view_is
    (released_leaves _ _ c.args.number _ _ c.in_ok-operation.was c.release.ensures.freed)
