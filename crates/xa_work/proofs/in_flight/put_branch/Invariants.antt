use Rattle.xa_base.proofs.{◌≡◌, ◌≤◌, ◌+◌, drop, length, take, vec_capacity}
use Rattle.xa_work.specs.{changes_at}
use Rattle.xa_work.proofs.Making.{Leaves, Adds, at_of, begun_of}
use Rattle.xa_work.proofs.in_flight.put_branch.Given as goal

-- the start and the first changes were put to the manager
abbrev pub invariant-loop-change : goal.invariant-loop-change
invariant-loop-change g l = record {
  leaves : Leaves g.I.Idle.leads l.fn.desk l.desk l.fn.idle l.idle;
  puts : Adds (at_of l.branch.m (begun_of (take l.change-index l.changes) l.branch)) l.fn.flights.items l.flights.items
      l.fn.desk l.desk;
  room : vec_capacity l.flights ≡ vec_capacity l.fn.flights;
  left : length l.flights.items + length (changes_at (drop l.change-index l.changes) l.branch.m) + 1 ≤ vec_capacity
      l.flights;
}
