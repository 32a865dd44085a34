use Rattle.xa_driver.proofs.Flights.{all_but_flights}
use Rattle.xa_driver.proofs.round.Round.leave.Goals as goal

pub returns-clause-kept : goal.returns-clause-kept
returns-clause-kept c kept = c.keep_all.ensures.kept (all_but_flights c.args.self c.args.desk.now c.requires kept)
