use Rattle.xa_lane.specs.{SameSender}
use Rattle.test_parts.proofs.lane.threads.send_all.Given as goal

abbrev pub invariant-items : goal.invariant-items
invariant-items g l = SameSender l.fn.sender l.sender

abbrev pub invariant-mark : goal.invariant-mark
invariant-mark g l = SameSender l.fn.sender l.sender
