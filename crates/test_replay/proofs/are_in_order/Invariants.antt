use Rattle.xa_base.proofs.{◌≡◌, ◌+◌, ◌<◌, ℕ, slice_get, Some, range_with_len}
use Rattle.test_replay.specs.{numbers_of_thread}
use Rattle.test_replay.proofs.are_in_order.Given as goal

-- the requests of the first threads are in their order
abbrev pub invariant-loop-before : goal.invariant-loop-before
invariant-loop-before l =
    (k n : ℕ) → k < l.before → slice_get l.sent k ≡ Some n → numbers_of_thread (k + 1) l.journal ≡ range_with_len 0 n
