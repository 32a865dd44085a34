use Rattle.xa_base.proofs.{◌≡◌}
use Rattle.xa_lane.specs.{SameReceiver}
use Rattle.xa_log_shared.proofs.client.next_answer.Given as goal

abbrev pub invariant-loop : goal.invariant-loop
invariant-loop g l =
    record { same : SameReceiver l.initial.answers l.answers; taken : l.answers.taken ≡ l.initial.answers.taken }
