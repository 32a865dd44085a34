use Rattle.xa_switch.specs.{planned}
use Rattle.xa_crew.proofs.run.run_clients.Goals as goal

pub returns-in-Ok-clause-ran : goal.returns-in-Ok-clause-ran
returns-in-Ok-clause-ran g c =
    rw c.in_ok-opened.ensures.clients at (c.in-Ok.ensures.ran (planned c.args.plan.now) c.in_ok-opened.ensures.opened)

pub returns-clause-unsettled : goal.returns-clause-unsettled
returns-clause-unsettled g c =
    let back = rw c.in-Err-Unsettled.field-0-is at c.in-Err-Unsettled.ensures.unsettled in
    rw c.in_ok-opened.ensures.clients at (back (planned c.args.plan.now) c.in_ok-opened.ensures.opened)
