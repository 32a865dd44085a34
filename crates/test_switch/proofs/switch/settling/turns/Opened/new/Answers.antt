use Rattle.xa_switch.specs.{planned}
use Rattle.test_switch.proofs.switch.settling.turns.Opened.new.Goals as goal

pub returns : goal.returns
returns g c =
    c.opened_pieces_come_from_their_opening.ensures (planned c.args.plan.now) c.in-Some.desks.items c.in-Some.workers
    c.in-Some.ensures
