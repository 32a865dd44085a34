use Rattle.xa_base.proofs.{◌≡◌, ◌++◌, map, length, into_iter_items, into_iter_len}
use Rattle.crossbeam_queue.specs.Passes.{view, IsPassOf}
use Rattle.xa_lane.specs.{Receives, made_in, taken_in, log_of_end}
use Rattle.xa_lane.proofs.closing.take_in.Given as goal

abbrev pub invariant-loop-end : goal.invariant-loop-end
invariant-loop-end g l = record {
  of_line : IsPassOf l.line l.pass;
  so_far : l.yielded ++ into_iter_items l.end-iterator ≡ into_iter_items l.initial.end-iterator;
  told : view l.pass ≡ Receives (made_in (view l.fn.pass)) (taken_in (view l.fn.pass)) (map log_of_end l.yielded);
  counted : into_iter_len l.end-iterator ≡ length (into_iter_items l.end-iterator);
}
