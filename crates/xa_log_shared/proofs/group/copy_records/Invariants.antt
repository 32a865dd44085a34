use Rattle.xa_base.proofs.{◌≡◌, take, vec_capacity}
use Rattle.xa_log_shared.specs.{records_waiting}
use Rattle.xa_log_shared.proofs.group.copy_records.Given as goal

abbrev pub invariant-loop-one : goal.invariant-loop-one
invariant-loop-one l =
    record {
      copied : l.group.items ≡ records_waiting (take l.one-index l.waiting);
      space : vec_capacity l.group ≡ vec_capacity l.initial.group;
    }
