use Rattle.xa_base.proofs.{map, sym, subst}
use Rattle.xa_switch.specs.{planned, ComeFromOpenings, seat_of_desk, seat_of_worker}
use Rattle.test_driver.proofs.driver.told.open.Goals as goal

-- the one desk is all desks
pub returns : goal.returns
returns g c =
    subst (λ ds. ComeFromOpenings (map seat_of_desk ds) (map seat_of_worker c.in-Some.workers))
    (sym c.in-Some-one.ensures)
    (c.opened_pieces_come_from_their_opening.ensures (planned c.args.plan.now) c.in-Some.desks.items c.in-Some.workers
    c.in-Some.ensures)
