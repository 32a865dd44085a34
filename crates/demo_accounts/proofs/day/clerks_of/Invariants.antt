use Rattle.std.proofs.Common.{◌≡◌, ◌+◌, length}
use Rattle.std.specs.Vec.Iter.{into_iter_items}
use Rattle.demo_accounts.proofs.day.clerks_of.Given as goal

-- there is a teller for each log that is past
abbrev pub invariant-loop-log : goal.invariant-loop-log
invariant-loop-log g l =
    record { counted : length l.clerks.items + length (into_iter_items l.log-iterator) ≡ length l.fn.logs.items }
