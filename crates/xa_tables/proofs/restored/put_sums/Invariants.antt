use Rattle.xa_base.proofs.{◌≡◌, ◌≤◌, take, from_entries}
use Rattle.std.specs.FinMap as finmap
use Rattle.xa_tables.specs.{sum_entries, sum_fault}
use Rattle.xa_tables.proofs.Restoring.{IsFineBefore}
use Rattle.xa_tables.proofs.restored.put_sums.Given as goal

-- the sums so far, none of which has a fault
abbrev pub invariant-loop-sum : goal.invariant-loop-sum
invariant-loop-sum l =
    (l.accounts.sums ≡ from_entries (sum_entries (take l.sum-index l.sums)))
    × (l.accounts.values ≡ l.initial.accounts.values) × (l.accounts.adds ≤ 1)
    × IsFineBefore (sum_fault (λ k. finmap.get l.initial.accounts.values k) (λ x. finmap.get l.branches.states x))
    l.sums l.sum-index
