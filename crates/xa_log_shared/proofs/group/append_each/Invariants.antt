use Rattle.xa_base.proofs.{◌≡◌, true, take, drop, vec_capacity}
use Rattle.xa_log.specs.{AreNew}
use Rattle.xa_log_shared.specs.{IsToldBy, Settles, records_waiting}
use Rattle.xa_log_shared.proofs.group.append_each.Given as goal

abbrev pub invariant-loop-one : goal.invariant-loop-one
invariant-loop-one g l = record {
  told : IsToldBy l.is_known (g.L.DecisionRecords.knows l.log);
  new : l.is_known ≡ true → AreNew (g.L.DecisionLog.state l.log) (records_waiting (drop l.one-index l.waiting));
  space : vec_capacity l.done ≡ vec_capacity l.initial.done;
  settles : Settles (take l.one-index l.waiting) l.done.items l.initial.deeds.items l.deeds.items l.initial.is_known
      (g.L.DecisionLog.state l.initial.log)
      l.is_known (g.L.DecisionLog.state l.log);
}
