use Rattle.xa_crew_again.proofs.Stores.{all_reopened, all_stay_one}
use Rattle.xa_crew_again.proofs.stored.run_clients_again_stored.Goals as goal

pub run_reopened-requires-clause-stores : goal.run_reopened-requires-clause-stores
run_reopened-requires-clause-stores g c = λ κs outlives.
    all_reopened g.S.Store.knows g.S.Store.may_leave c.args.settled c.args.stores.items _ c.requires.stores
    c.in-Ok.ensures.reopened

pub returns-in-Err-clause-unopened_stores : goal.returns-in-Err-clause-unopened_stores
returns-in-Err-clause-unopened_stores g c =
    all_stay_one g.S.Store.knows g.S.Store.may_leave c.args.settled c.args.stores.items _ c.requires.stores
    c.in-Err.ensures.stay
