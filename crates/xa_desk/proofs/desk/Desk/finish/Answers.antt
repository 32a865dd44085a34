use Rattle.xa_desk.proofs.GoingOn.{goes_out}
use Rattle.xa_desk.proofs.desk.Desk.finish.Goals as goal

pub returns-clause-goes_out : goal.returns-clause-goes_out
returns-clause-goes_out g c = rw (← c.self.view_is) (goes_out _ _ c.end.ensures.ended)
