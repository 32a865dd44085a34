use Rattle.xa_base.proofs.{◌≡◌, length, map, vec_capacity}
use Rattle.xa_switch.specs.{Each, IsDeskOf}
use Rattle.xa_switch.proofs.Dealing.{IsLeft}
use Rattle.xa_switch.proofs.opening.assemble.assemble_desks.Given as goal

-- the desks so far, and what is left of each list
abbrev pub invariant-loop-part : goal.invariant-loop-part
invariant-loop-part l = record {
  parts : IsLeft l.fn.parts.items l.yielded l.part-iterator;
  requests : IsLeft l.fn.columns.items l.yielded l.columns;
  completions : IsLeft l.fn.receivers.items l.yielded l.receivers;
  made : (length l.desks.items ≡ length l.yielded)
      × Each (IsDeskOf l.fn.parts.items (map (λ v. v.items) l.fn.columns.items) l.fn.receivers.items) l.desks.items;
  room : vec_capacity l.desks ≡ vec_capacity l.fn.desks;
}
