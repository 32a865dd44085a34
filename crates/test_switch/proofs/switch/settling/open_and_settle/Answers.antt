use Rattle.std.proofs.Common.{map, sym, subst}
use Rattle.xa_switch.specs.{planned, ComeFromOpenings, seat_of_desk, worker_seats}
use Rattle.test_switch.proofs.switch.settling.open_and_settle.Goals as goal

pub settle_all-requires : goal.settle_all-requires
settle_all-requires g c =
    let come =
    c.opened_pieces_come_from_their_opening.ensures (planned c.args.plan.now) c.in-Some.desks.items c.in-Some.turns
    c.in-Some.ensures in
    subst (λ ds. ComeFromOpenings ds (worker_seats c.in-Some-run_all.done.items)) (sym c.end_all-ended.ensures)
    (subst (ComeFromOpenings (map seat_of_desk c.in-Some.desks.items)) (sym c.in-Some-run_all.ensures) come)
