use Rattle.xa_base.proofs.{arith, length-map}
use Rattle.xa_driver.proofs.Calls.{first_rising, tran_first}
use Rattle.xa_driver.proofs.Requests.{same_itself}
use Rattle.xa_driver.proofs.stages.begin_prepare.Goals as goal

pub new-requires-clause-rising : goal.new-requires-clause-rising
new-requires-clause-rising c = rw c.in_ok-asks.ensures (first_rising 0 c.args.branches.now c.requires.rising)

pub returns-clause-preparing : goal.returns-clause-preparing
returns-clause-preparing c = grind (arith, length-map, tran_first, same_itself)
