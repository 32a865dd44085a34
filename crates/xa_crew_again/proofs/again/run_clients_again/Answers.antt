use Rattle.xa_base.proofs.{arith}
use Rattle.xa_switch.specs.{reopening}
use Rattle.xa_crew_again.proofs.again.run_clients_again.Goals as goal

pub returns-in-Ok-run-clause-ran : goal.returns-in-Ok-run-clause-ran
returns-in-Ok-run-clause-ran g c = grind arith

pub returns-in-Err-Unstarted-clause-unstarted : goal.returns-in-Err-Unstarted-clause-unstarted
returns-in-Err-Unstarted-clause-unstarted g c =
    let same = rw c.in-Err-Unstarted.field-0-is at c.in-Err-Unstarted.ensures.unstarted in (
      same.1 (reopening c.args.settled c.args.again.now) c.in-Ok.ensures.opened,
      rw same.0 c.in-Ok.ensures.given,
    )
