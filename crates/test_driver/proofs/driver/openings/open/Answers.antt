use Rattle.xa_base.proofs.{map, slice_get, sym, subst, ap}
use Rattle.xa_switch.specs.{planned, ComeFromOpenings, seat_of_desk, seat_of_worker}
use Rattle.test_driver.proofs.Senders.{nothing_sent}
use Rattle.test_driver.proofs.driver.openings.open.Goals as goal

-- the two desks are all desks
pub returns-clause-opened : goal.returns-clause-opened
returns-clause-opened g c =
    subst (λ ds. ComeFromOpenings (map seat_of_desk ds) (map seat_of_worker c.in-Some.workers))
    (sym c.in-Some-two.ensures)
    (c.opened_pieces_come_from_their_opening.ensures (planned c.args.plan.now) c.in-Some.desks.items c.in-Some.workers
    c.in-Some.ensures)

pub returns-clause-fresh : goal.returns-clause-fresh
returns-clause-fresh g c =
    nothing_sent (planned c.args.plan.now) c.in-Some.desks.items c.in-Some.workers c.in-Some.ensures 1
    c.in-Some-two.second
    (ap (λ ds. slice_get ds 1) (sym c.in-Some-two.ensures))
