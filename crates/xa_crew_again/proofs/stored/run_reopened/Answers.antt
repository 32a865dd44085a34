use Rattle.xa_switch.specs.{reopening}
use Rattle.xa_crew_again.proofs.Stores.{kept_one}
use Rattle.xa_crew_again.proofs.stored.run_reopened.Goals as goal

pub run_stored-ran-requires-clause-opened : goal.run_stored-ran-requires-clause-opened
run_stored-ran-requires-clause-opened g c =
    λ κs outlives. (reopening c.args.settled c.args.again.now, c.in-Ok.ensures.opened, c.requires.stores)

pub returns-in-Ok-ran-clause-ran : goal.returns-in-Ok-ran-clause-ran
returns-in-Ok-ran-clause-ran g c = record {
  given = _;
  are_given = c.in-Ok.ensures.given;
  run = (rw c.in-Ok-ran.is at c.run_stored-ran.ensures.ran) (reopening c.args.settled c.args.again.now)
      c.in-Ok.ensures.opened;
}

pub returns-in-Err-Unstarted-clause-unstarted : goal.returns-in-Err-Unstarted-clause-unstarted
returns-in-Err-Unstarted-clause-unstarted g c =
    let fault = rw c.in-Err-Unstarted.is at c.run_stored-ran.ensures.unstarted in
    let same = rw c.in-Err-Unstarted.field-0-is at fault in (
      same.1 (reopening c.args.settled c.args.again.now) c.in-Ok.ensures.opened,
      rw same.0 c.in-Ok.ensures.given,
    )

pub returns-in-Err-Unsettled-clause-unsettled : goal.returns-in-Err-Unsettled-clause-unsettled
returns-in-Err-Unsettled-clause-unsettled g c =
    let fault = rw c.in-Err-Unsettled.is at c.run_stored-ran.ensures.unsettled in
    let back = rw c.in-Err-Unsettled.field-0-is at fault in
    record {
      given = _;
      are_given = c.in-Ok.ensures.given;
      run = back (reopening c.args.settled c.args.again.now) c.in-Ok.ensures.opened;
    }

pub returns-in-Err-clause-unopened_stores : goal.returns-in-Err-clause-unopened_stores
returns-in-Err-clause-unopened_stores g c =
    kept_one g.S.Store.knows g.S.Store.may_leave c.args.settled _ c.requires.stores
