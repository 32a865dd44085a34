use Rattle.xa_lane.proofs.Closes.{conserves_of_ends}
use Rattle.xa_lane.proofs.laws.last_ends_conserve.Goals as goal

pub returns : goal.returns
returns g c ends taken left h = conserves_of_ends ends taken left h
