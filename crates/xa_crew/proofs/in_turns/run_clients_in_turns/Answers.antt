use Rattle.xa_switch.specs.{planned}
use Rattle.xa_crew.proofs.in_turns.run_clients_in_turns.Goals as goal

pub returns-in-Ok-clause-ran : goal.returns-in-Ok-clause-ran
returns-in-Ok-clause-ran g c =
    rw c.in_ok-opened.ensures.clients at (c.in-Ok.ensures.ran (planned c.args.plan.now) c.in_ok-opened.ensures.opened)

pub returns-in-Err-clause-unsettled : goal.returns-in-Err-clause-unsettled
returns-in-Err-clause-unsettled g c =
    rw c.in_ok-opened.ensures.clients at
    (c.in-Err.ensures.unsettled (planned c.args.plan.now) c.in_ok-opened.ensures.opened)
