use Rattle.xa_switch.specs.{reopening}
use Rattle.test_switch.proofs.switch.settling.reopening.reopened.Goals as goal

pub returns : goal.returns
returns g c =
    c.opened_pieces_come_from_their_opening.ensures (reopening c.args.settled c.again.result) c.in-Some.desks.items
    c.in-Some.workers c.in-Some.ensures.opened
