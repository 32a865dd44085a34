use Rattle.xa_work.specs.{in_turn}
use Rattle.xa_work.proofs.unit.work.Goals as goal

pub returns-clause-tries : goal.returns-clause-tries
returns-clause-tries g c = in_turn c.work_in_turn.ensures.calls
