use Rattle.xa_base.proofs.{◌≡◌, ◌≤◌, ◌+◌, ◌++◌, length, map, vec_capacity}
use Rattle.script_session.specs.{branch_of_commit, branches_of}
use Rattle.script_session.proofs.commits.branches_of.Given as goal

-- the branches so far and those at the managers to come are all
abbrev pub invariant-loop-manager : goal.invariant-loop-manager
invariant-loop-manager l = record {
  all : l.branches.items ++ map (branch_of_commit l.asked) l.manager-iterator ≡ branches_of l.asked;
  few : length l.branches.items + length l.manager-iterator ≤ 8;
  room : 8 ≤ vec_capacity l.branches;
}
