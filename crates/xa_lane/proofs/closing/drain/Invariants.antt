use Rattle.xa_base.proofs.{◌≡◌, ◌≤◌, ◌++◌, List, vec_capacity}
use Rattle.crossbeam_queue.specs.Passes.{view, IsPassOf}
use Rattle.xa_lane.specs.{Parcel, Receives, made_in, taken_in, told_in, items_in}
use Rattle.xa_base.specs.{MOST_QUEUED}
use Rattle.xa_lane.proofs.closing.drain.Given as goal

abbrev pub invariant-loop : goal.invariant-loop
invariant-loop g l = record {
  of_line : IsPassOf l.line l.pass;
  room : MOST_QUEUED ≤ vec_capacity l.left;
  claim : (held : List (Parcel g.row.T.Denot))
      × (view l.pass ≡ Receives (made_in (view l.fn.pass)) (taken_in (view l.fn.pass) ++ held)
      (told_in (view l.fn.pass))) × (l.left.items ≡ items_in held);
}
