use Rattle.xa_base.proofs.{range_with_len}
use Rattle.xa_base.specs.{Pairwise}
use Rattle.xa_script.specs.{IsNewThread}
use Rattle.xa_script.proofs.in_threads.threads_of.Given as goal

-- the first threads are there
abbrev pub invariant-loop-before : goal.invariant-loop-before
invariant-loop-before l = record { new : Pairwise (IsNewThread l.script) (range_with_len 1 l.before) l.threads.items }
