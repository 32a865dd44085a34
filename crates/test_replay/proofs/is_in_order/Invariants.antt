use Rattle.xa_base.proofs.{◌≡◌, ◌≤◌, take, range_with_len}
use Rattle.test_replay.specs.{numbers_of_thread}
use Rattle.test_replay.proofs.is_in_order.Given as goal

-- the thread's requests among the first entries have the numbers 0, 1, ..
abbrev pub invariant-loop-entry : goal.invariant-loop-entry
invariant-loop-entry l =
    record {
      few : l.next ≤ l.entry-index;
      numbers : numbers_of_thread l.thread (take l.entry-index l.journal) ≡ range_with_len 0 l.next;
    }
