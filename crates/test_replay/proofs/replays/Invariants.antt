use Rattle.xa_base.proofs.{◌≡◌, take, All}
use Rattle.xa_base.specs.{IsUpTo}
use Rattle.xa_worker.specs.{Follows}
use Rattle.test_replay.proofs.replays.Given as goal

-- the tables have given the first entries their codes
abbrev pub invariant-loop-entry : goal.invariant-loop-entry
invariant-loop-entry l = record {
  threads : l.tables.threads ≡ l.threads;
  follows : Follows l.fn.tables.tables (take l.entry-index l.journal) l.tables.tables;
  each : All (λ e. IsUpTo l.threads e.0.thread) (take l.entry-index l.journal);
}
