use Rattle.std.proofs.Common.{◌≡◌, length}
use Rattle.demo_accounts.proofs.day.keep_the_days.Given as goal

-- there is a log for each teller
abbrev pub invariant-loop : goal.invariant-loop
invariant-loop g l =
    (goal.iterator-loop g).can_next l.iterator' × (goal.iterator-loop g).is_finite l.iterator'
    × (length l.logs.items ≡ 4)
