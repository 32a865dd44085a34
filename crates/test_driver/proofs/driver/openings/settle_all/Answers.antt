use Rattle.xa_base.proofs.{map, sym, subst, IsPermutation, IsPermutation-refl}
use Rattle.xa_switch.specs.{IsOf, seat_of_desk, seat_of_worker}
use Rattle.test_driver.proofs.driver.openings.settle_all.Goals as goal

-- the seats are those of the opening, in their order
pub returns-clause-of : goal.returns-clause-of
returns-clause-of g c = λ p ds ws opened desks workers.
    subst (IsOf p) (sym c.in-Ok.ensures.parts)
    (c.settled_openings_are_of_their_setup.ensures p ds ws c.args.desks.items c.args.workers.items opened
    (subst (IsPermutation (map seat_of_desk ds)) desks (IsPermutation-refl (map seat_of_desk ds)))
    (subst (IsPermutation (map seat_of_worker ws)) workers (IsPermutation-refl (map seat_of_worker ws)))
    c.in-Ok.ensures.whole.1)
