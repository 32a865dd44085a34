use Rattle.xa_desk.proofs.GoingOn.{goes_submitted, goes_fuller}
use Rattle.xa_desk.proofs.desk.Desk.submit_reached.Goals as goal

pub returns-in_default-offer-clause-goes_on : goal.returns-in_default-offer-clause-goes_on
returns-in_default-offer-clause-goes_on g c =
    rw (← c.self.view_is) (goes_fuller _ _ c.args.manager c.in_default-offer.ensures.full)

pub returns-clause-goes_on : goal.returns-clause-goes_on
returns-clause-goes_on g c =
    rw (← c.self.view_is) (goes_submitted _ _ c.args.manager c.args.op.now c.in-Some-offer.ensures.sent)
