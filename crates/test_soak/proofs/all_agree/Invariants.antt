use Rattle.std.proofs.Common.{◌≤◌, ℕ}
use Rattle.test_soak.specs.{AgreesAt}
use Rattle.test_soak.proofs.all_agree.Given as goal

-- the first managers agree
abbrev pub invariant-loop-before : goal.invariant-loop-before
invariant-loop-before l = (m : ℕ) → 1 ≤ m → m ≤ l.before → AgreesAt l.accounts l.settled m
