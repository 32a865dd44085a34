use Rattle.xa_base.proofs.{◌≡◌, length, map, vec_capacity}
use Rattle.xa_switch.specs.{Each, IsWorkerOf}
use Rattle.xa_switch.proofs.Dealing.{IsLeft}
use Rattle.xa_switch.proofs.opening.assemble.assemble_workers.Given as goal

-- the workers so far, and what is left of each list
abbrev pub invariant-loop-part : goal.invariant-loop-part
invariant-loop-part l = record {
  parts : IsLeft l.fn.parts.items l.yielded l.part-iterator;
  given : IsLeft l.fn.managers.items l.yielded l.managers;
  requests : IsLeft l.fn.receivers.items l.yielded l.receivers;
  senders : IsLeft l.fn.columns.items l.yielded l.columns;
  made : (length l.workers.items ≡ length l.yielded)
      × Each
      (IsWorkerOf l.fn.parts.items l.fn.managers.items l.fn.receivers.items (map (λ v. v.items) l.fn.columns.items))
      l.workers.items;
  room : vec_capacity l.workers ≡ vec_capacity l.fn.workers;
}
