use Rattle.xa_base.proofs.{◌≤◌, ◌+◌, drop, length, take, vec_capacity}
use Rattle.xa_work.specs.{PutsRequests, requests_of_branches}
use Rattle.xa_work.proofs.Making.{Leaves}
use Rattle.xa_work.proofs.in_flight.work_in_flight.Given as goal

-- the requests of the first branches were put
abbrev pub invariant-loop-branch : goal.invariant-loop-branch
invariant-loop-branch g l = record {
  leaves : Leaves g.I.Idle.leads l.fn.desk l.desk l.fn.idle l.idle;
  puts : PutsRequests (requests_of_branches l.changes (take l.branch-index l.branches)) l.flights.items l.fn.desk
      l.desk;
  room : length l.flights.items + length (requests_of_branches l.changes (drop l.branch-index l.branches)) ≤
      vec_capacity
      l.flights;
}
