use Rattle.xa_base.proofs.{◌≡◌, ◌+◌, length}
use Rattle.xa_desk.specs.{GoesOn}
use Rattle.xa_driver.specs.{AllKeptBut, LeavesInFlight, OwnsAll}
use Rattle.xa_driver.proofs.Flights.{IsLast}
use Rattle.xa_driver.proofs.round.keep_all.Given as goal

-- the tickets of the others are owned
abbrev pub invariant-loop-place : goal.invariant-loop-place
invariant-loop-place l = record {
  owned : OwnsAll l.desk l.tickets.items;
  kept : AllKeptBut l.initial.tickets.items l.initial.desk → AllKeptBut l.tickets.items l.desk;
  left : LeavesInFlight l.initial.tickets.items l.initial.desk l.desk;
  goes_on : GoesOn l.initial.desk l.desk;
  last : IsLast l.tickets.items l.initial.tickets.items;
  counted : length l.tickets.items + l._place ≡ length l.initial.tickets.items;
}
