use Rattle.xa_base.proofs.{◌≡◌}
use Rattle.xa_lane.specs.{but_full}
use Rattle.xa_log_shared.proofs.sending.finish.Given as goal

abbrev pub invariant-loop : goal.invariant-loop
invariant-loop g l = but_full l.sender ≡ but_full l.fn.sender
