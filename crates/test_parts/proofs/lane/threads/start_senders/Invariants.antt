use Rattle.xa_base.proofs.{◌≡◌, ◌++◌, map, length, into_iter_items, into_iter_len}
use Rattle.test_parts.proofs.lane.threads.start_senders.Given as goal

abbrev pub invariant-loop-sender : goal.invariant-loop-sender
invariant-loop-sender g l = record {
  so_far : l.yielded ++ into_iter_items l.sender-iterator ≡ into_iter_items l.initial.sender-iterator;
  counted : into_iter_len l.sender-iterator ≡ length (into_iter_items l.sender-iterator);
  promised : map (λ h. h.promise.0.value.line) l.handles.items ≡ map (λ s. s.line) l.yielded;
}
