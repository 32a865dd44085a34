use Rattle.xa_switch.specs.{planned}
use Rattle.xa_crew.proofs.opened.open_clients.Goals as goal

pub returns-clause-opened : goal.returns-clause-opened
returns-clause-opened g c =
    c.hold.ensures.opened (planned c.args.plan.now) c.in_ok-desks.ensures.sound.limits c.in_ok-desks.ensures.opened
