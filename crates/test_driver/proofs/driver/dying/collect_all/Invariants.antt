use Rattle.xa_base.proofs.{◌≡◌, ℕ, map}
use Rattle.xa_desk.specs.{ledger, GoesOn}
use Rattle.xa_switch.specs.{seat_of_worker}
use Rattle.test_driver.proofs.driver.dying.collect_all.Given as goal

-- what was collected so far leaves what was sent
abbrev pub invariant-loop-before : goal.invariant-loop-before
invariant-loop-before g l = record {
  goes_on : GoesOn l.fn.desk l.desk;
  sent : (m : ℕ) → (ledger l.desk.ledgers m).sent ≡ (ledger l.fn.desk.ledgers m).sent;
  idled : map seat_of_worker l.idle ≡ map seat_of_worker l.fn.idle;
}
