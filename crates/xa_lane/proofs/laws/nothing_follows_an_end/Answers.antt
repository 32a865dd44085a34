use Rattle.xa_lane.proofs.Closes.{leaves_nothing}
use Rattle.xa_lane.proofs.laws.nothing_follows_an_end.Goals as goal

pub returns : goal.returns
returns g c ends taken left h = leaves_nothing ends taken left h
