use Rattle.xa_base.proofs.{ℕ, ◌<◌, ◌≤◌, get_or, length, All}
use Rattle.demo_bank_days.specs.{Errands}
use Rattle.demo_bank_days.proofs.errands.most.Given as goal

-- none of the first has more, and what none has more than is no less
abbrev pub invariant-loop-errand : goal.invariant-loop-errand
invariant-loop-errand l = record {
  all : (k : ℕ) (d : Errands) → k < l.errand-index → length (get_or l.errands k d).transfers.items ≤ l.most;
  least : (n : ℕ) → All (λ e. length e.transfers.items ≤ n) l.errands → l.most ≤ n;
}
