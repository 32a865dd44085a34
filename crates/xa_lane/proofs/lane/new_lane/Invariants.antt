use Rattle.xa_base.proofs.{◌≡◌, [], arc_value}
use Rattle.crossbeam_queue.specs.Passes.{view, IsPassOf, ruled_capacity}
use Rattle.xa_lane.specs.{Receives, line_of, new_senders}
use Rattle.xa_lane.proofs.lane.new_lane.Given as goal

abbrev pub invariant-loop-index : goal.invariant-loop-index
invariant-loop-index g l = record {
  of_line : IsPassOf (arc_value l.line) l.pass;
  knows : view l.pass ≡ Receives l.index [] [];
  room : ruled_capacity (arc_value l.line) ≡ l.capacity;
  dealt : l.ends.items ≡ new_senders l.name (line_of (arc_value l.line)) l.capacity l.index;
}
