use Rattle.xa_desk.proofs.GoingOn.{goes_out}
use Rattle.xa_desk.proofs.laws.desks_go_out.Goals as goal

pub returns : goal.returns
returns c = goes_out
