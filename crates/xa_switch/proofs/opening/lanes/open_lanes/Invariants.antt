use Rattle.xa_base.proofs.{◌≤◌, map, vec_capacity, All}
use Rattle.xa_switch.specs.{AreNewLanes}
use Rattle.xa_switch.proofs.opening.lanes.open_lanes.Given as goal

-- the lanes so far, and room for the others
abbrev pub invariant-loop-before : goal.invariant-loop-before
invariant-loop-before g l = record {
  lanes : AreNewLanes l.opening l.kind l.senders l.before l.room (map (λ c. c.items) l.columns.items) l.receivers.items;
  deep : All (λ c. l.fn.lanes ≤ vec_capacity c) l.columns.items;
  room : l.fn.lanes ≤ vec_capacity l.receivers;
}
