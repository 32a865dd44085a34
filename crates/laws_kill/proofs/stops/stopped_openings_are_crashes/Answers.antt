use Rattle.laws_kill.proofs.Stopped.{stops}
use Rattle.laws_kill.proofs.stops.stopped_openings_are_crashes.Goals as goal

pub returns : goal.returns
returns c = λ p desks workers are. stops p desks workers are
