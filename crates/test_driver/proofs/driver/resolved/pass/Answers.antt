use Rattle.xa_base.proofs.{◌≡◌, List, [], ◌∷◌, map, refl, sym, ap, subst, ◌∙◌}
use Rattle.xa_desk.specs.{LedgerView, ledger}
use Rattle.xa_switch.specs.{reopening, thread_part, DeskSeat, WorkerSeat, ComeFromOpenings, desk_seats, seat_of_desk}
use Rattle.xa_switch.specs.{Settling}
use Rattle.test_driver.proofs.Senders.{nobody_names, nothing_sent}
use Rattle.test_driver.proofs.driver.resolved.pass.Goals as goal

-- the seats of what is settled are those of the opening
pub settle_all-requires : goal.settle_all-requires
settle_all-requires g c =
    let desks : map seat_of_desk (c.open_again-desk.result.desk ∷ []) ≡ desk_seats c.in-Ok.desks.items =
    sym (ap desk_seats c.in-Ok.ensures.items ∙ ap (λ (x : DeskSeat). x ∷ []) (c.end-last.ensures.seat)) in
    let workers = sym (c.run_all-done.ensures ∙ c.end-last.ensures.idled) in
    subst (λ (p : List DeskSeat × List WorkerSeat). ComeFromOpenings p.0 p.1) (λ i. (desks i, workers i))
    (c.opened_pieces_come_from_their_opening.ensures (reopening c.args.settled c.args.again.now)
    (c.open_again-desk.result.desk ∷ []) c.open_again-desk.result.workers c.open_again-desk.ensures.opened)

pub returns-clause-continues : goal.returns-clause-continues
returns-clause-continues g c = λ m T first.
    let desks : map seat_of_desk (c.open_again-desk.result.desk ∷ []) ≡ desk_seats c.in-Ok.desks.items =
    sym (ap desk_seats c.in-Ok.ensures.items ∙ ap (λ (x : DeskSeat). x ∷ []) (c.end-last.ensures.seat)) in
    let workers = sym (c.run_all-done.ensures ∙ c.end-last.ensures.idled) in
    let of =
    c.settle_all.ensures.of (reopening c.args.settled c.args.again.now) (c.open_again-desk.result.desk ∷ [])
    c.open_again-desk.result.workers c.open_again-desk.ensures.opened desks workers in
    c.reopened_openings_go_on_from_what_was_left.ensures c.args.settled c.settle_all.result c.args.again.now m T
    c.is_settled.ensures.whole of first

pub returns-clause-silent : goal.returns-clause-silent
returns-clause-silent g c = λ t.
    let threads =
    ap (λ (s : Settling). s.threads) c.settle_all.ensures.parts ∙ ap (map thread_part) c.in-Ok.ensures.items in
    nobody_names c.settle_all.result c.end-last.result t c.settle_all.ensures.settled threads
    (λ m. ap (λ (at : List LedgerView). (ledger at m).sent) c.end-last.ensures.lists
    ∙ nothing_sent (reopening c.args.settled c.args.again.now) (c.open_again-desk.result.desk ∷ [])
    c.open_again-desk.result.workers c.open_again-desk.ensures.opened 0 c.open_again-desk.result.desk refl m)
