use Rattle.std.proofs.Common.{◌≡◌, length}
use Rattle.demo_accounts.proofs.files.logs_of.Given as goal

-- there is a log of each teller that is past
abbrev pub invariant-loop-place : goal.invariant-loop-place
invariant-loop-place l = record { counted : length l.logs.items ≡ l.place }
