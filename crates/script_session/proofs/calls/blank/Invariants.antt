use Rattle.xa_base.proofs.{◌≡◌, ◌≤◌, length, vec_capacity}
use Rattle.script_session.proofs.calls.blank.Given as goal

abbrev pub invariant-loop : goal.invariant-loop
invariant-loop l = record { many : length l.xids.items ≡ l.counter; room : l.room ≤ vec_capacity l.xids }
