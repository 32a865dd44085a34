use Rattle.xa_base.proofs.{◌≡◌, ℕ, ◌<◌, true}
use Rattle.xa_lane.specs.{has_end}
use Rattle.xa_lane.proofs.closing.are_whole.Given as goal

abbrev pub invariant-loop-sender : goal.invariant-loop-sender
invariant-loop-sender g l = (p : ℕ) → p < l.sender → has_end p l.ended.items ≡ true
