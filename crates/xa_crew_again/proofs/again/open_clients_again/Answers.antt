use Rattle.xa_switch.specs.{reopening}
use Rattle.xa_crew_again.proofs.again.open_clients_again.Goals as goal

pub returns-in-Ok-reopen-clause-opened : goal.returns-in-Ok-reopen-clause-opened
returns-in-Ok-reopen-clause-opened g c =
    c.hold.ensures.opened (reopening c.args.settled c.args.again.now) c.in-Ok-reopen.ensures.sound.limits
    c.in-Ok-reopen.ensures.opened
