use Rattle.xa_base.proofs.{◌≡◌, ◌≤◌, ◌++◌, map, length, vec_capacity, into_iter_items, into_iter_len}
use Rattle.xa_lane.specs.{but_full}
use Rattle.xa_log_shared.proofs.worker.LogWorker.end.Given as goal

abbrev pub invariant-loop-sender : goal.invariant-loop-sender
invariant-loop-sender g l = record {
  so_far : l.yielded ++ into_iter_items l.sender-iterator ≡ into_iter_items l.initial.sender-iterator;
  ended : map but_full l.ends.items ≡ map but_full l.yielded;
  counted : into_iter_len l.sender-iterator ≡ length (into_iter_items l.sender-iterator);
  room : length (into_iter_items l.initial.sender-iterator) ≤ vec_capacity l.ends;
}
