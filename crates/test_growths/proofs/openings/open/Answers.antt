use Rattle.std.proofs.Common.{◌≡◌, List, sym, subst, map}
use Rattle.std.specs.List.{All}
use Rattle.xa_desk.specs.{DeskView}
use Rattle.xa_switch.specs.{planned, ComeFromOpenings, openings_of, seat_of_desk, seat_of_worker}
use Rattle.test_growths.proofs.openings.open.Goals as goal

-- the one desk is all desks
pub returns-clause-come : goal.returns-clause-come
returns-clause-come g c =
    let desks = c.in_ok-desks.desks.items in
    let workers = c.in_ok-desks.workers in
    subst (λ (ds : List DeskView). ComeFromOpenings (map seat_of_desk ds) (map seat_of_worker workers))
    (sym c.in_ok-desk.ensures)
    (c.opened_pieces_come_from_their_opening.ensures (planned c.args.plan.now) desks workers c.in_ok-desks.ensures)

pub returns-clause-number : goal.returns-clause-number
returns-clause-number g c =
    let desks = c.in_ok-desks.desks.items in
    let workers = c.in_ok-desks.workers in
    subst
    (λ (ds : List DeskView). All (λ n. n ≡ c.args.plan.now.opening)
    (openings_of (map seat_of_desk ds) (map seat_of_worker workers)))
    (sym c.in_ok-desk.ensures)
    (c.opened_pieces_have_their_number.ensures (planned c.args.plan.now) desks workers c.in_ok-desks.ensures)
