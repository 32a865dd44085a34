use Rattle.xa_lane.specs.{SameReceiver}
use Rattle.test_parts.proofs.lane.threads.receive_all.Given as goal

abbrev pub invariant-loop : goal.invariant-loop
invariant-loop g l = SameReceiver l.fn.receiver l.receiver
