use Rattle.std.proofs.Common.{◌≡◌, ◌+◌, length}
use Rattle.std.specs.Vec.Iter.{into_iter_items}
use Rattle.demo_accounts.proofs.day.open_logs.Given as goal

-- each log is told or to come
abbrev pub invariant-loop-log : goal.invariant-loop-log
invariant-loop-log g l = record { counted : length l.told.items + length (into_iter_items l.log-iterator) ≡ 4 }
