use Rattle.xa_base.proofs.{◌≡◌, ◌≤◌, ◌+◌, ◌*◌, take, length}
use Rattle.xa_base.specs.{MOST_REQUESTS}
use Rattle.xa_work.specs.{requests_of_branches}
use Rattle.xa_work.proofs.in_flight.count_steps.Given as goal

-- the first branches' steps were counted
abbrev pub invariant-loop-branch : goal.invariant-loop-branch
invariant-loop-branch l = record {
  steps : l.count ≡ length (requests_of_branches l.changes (take l.branch-index l.branches));
  few : l.count ≤ l.branch-index * (MOST_REQUESTS + 2);
}
