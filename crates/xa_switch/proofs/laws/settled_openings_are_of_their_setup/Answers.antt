use Rattle.xa_switch.proofs.SettledOpenings.{of_setup}
use Rattle.xa_switch.proofs.laws.settled_openings_are_of_their_setup.Goals as goal

pub returns : goal.returns
returns c = λ p ds ws es vs o desks workers all. of_setup p ds ws es vs o desks workers all
