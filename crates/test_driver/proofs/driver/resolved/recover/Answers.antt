use Rattle.xa_base.proofs.{◌≡◌, List, [], ◌∷◌, map, refl, sym, ap, subst, ◌∙◌}
use Rattle.xa_desk.specs.{DeskView, ledger}
use Rattle.xa_desk.proofs.Ledgers.{same_lists}
use Rattle.xa_switch.specs.{reopening, thread_part, DeskSeat, WorkerSeat, ComeFromOpenings, desk_seats, seat_of_desk}
use Rattle.xa_switch.specs.{Settling}
use Rattle.test_driver.proofs.Senders.{grown_of_first, nothing_sent, only_of_one}
use Rattle.test_driver.proofs.driver.resolved.recover.Goals as goal

-- the seats of what is settled are those of the opening
pub settle_all-settled-requires : goal.settle_all-settled-requires
settle_all-settled-requires g c =
    let desks : map seat_of_desk (c.open_again-desk.result.desk ∷ []) ≡ desk_seats c.in-Ok.desks.items =
    sym (ap desk_seats c.in-Ok.ensures.items
    ∙ ap (λ (x : DeskSeat). x ∷ []) (c.end-last.ensures.seat ∙ c.resolve_left-ended.ensures.seat)) in
    let workers = sym (c.run_all-done.ensures ∙ c.end-last.ensures.idled ∙ c.resolve_left-ended.ensures.idled) in
    subst (λ (p : List DeskSeat × List WorkerSeat). ComeFromOpenings p.0 p.1) (λ i. (desks i, workers i))
    (c.opened_pieces_come_from_their_opening.ensures (reopening c.args.settled c.args.again.now)
    (c.open_again-desk.result.desk ∷ []) c.open_again-desk.result.workers c.open_again-desk.ensures.opened)

pub returns-clause-of : goal.returns-clause-of
returns-clause-of g c =
    let desks : map seat_of_desk (c.open_again-desk.result.desk ∷ []) ≡ desk_seats c.in-Ok.desks.items =
    sym (ap desk_seats c.in-Ok.ensures.items
    ∙ ap (λ (x : DeskSeat). x ∷ []) (c.end-last.ensures.seat ∙ c.resolve_left-ended.ensures.seat)) in
    let workers = sym (c.run_all-done.ensures ∙ c.end-last.ensures.idled ∙ c.resolve_left-ended.ensures.idled) in
    c.settle_all-settled.ensures.of (reopening c.args.settled c.args.again.now) (c.open_again-desk.result.desk ∷ [])
    c.open_again-desk.result.workers c.open_again-desk.ensures.opened desks workers

pub returns-clause-continues : goal.returns-clause-continues
returns-clause-continues g c = λ m T first.
    let desks : map seat_of_desk (c.open_again-desk.result.desk ∷ []) ≡ desk_seats c.in-Ok.desks.items =
    sym (ap desk_seats c.in-Ok.ensures.items
    ∙ ap (λ (x : DeskSeat). x ∷ []) (c.end-last.ensures.seat ∙ c.resolve_left-ended.ensures.seat)) in
    let workers = sym (c.run_all-done.ensures ∙ c.end-last.ensures.idled ∙ c.resolve_left-ended.ensures.idled) in
    let of =
    c.settle_all-settled.ensures.of (reopening c.args.settled c.args.again.now) (c.open_again-desk.result.desk ∷ [])
    c.open_again-desk.result.workers c.open_again-desk.ensures.opened desks workers in
    c.reopened_openings_go_on_from_what_was_left.ensures c.args.settled c.settle_all-settled.result c.args.again.now m T
    c.is_settled.ensures.whole of first

pub returns-clause-grown : goal.returns-clause-grown
returns-clause-grown g c =
    let threads =
    ap (λ (s : Settling). s.threads) c.settle_all-settled.ensures.parts
    ∙ ap (map thread_part) c.in-Ok.ensures.items in
    let own =
    c.thread-thread.ensures.thread
    ∙ sym (c.end-last.ensures.thread ∙ ap (λ (s : DeskSeat). s.thread) c.resolve_left-ended.ensures.seat) in
    let lists = c.end-last.ensures.lists ∙ ap (λ (d : DeskView). d.ledgers) (sym c.resolve_left-ended.ensures.after) in
    same_lists c.resolve_left-ended.result.after.value.ledgers _
    (grown_of_first c.settle_all-settled.result c.end-last.result [] c.thread-thread.result
    c.resolve_left-ended.result.after.value.ledgers threads own lists)

pub returns-clause-later : goal.returns-clause-later
returns-clause-later g c = λ t.
    let threads =
    ap (λ (s : Settling). s.threads) c.settle_all-settled.ensures.parts
    ∙ ap (map thread_part) c.in-Ok.ensures.items in
    let own =
    c.thread-thread.ensures.thread
    ∙ sym (c.end-last.ensures.thread ∙ ap (λ (s : DeskSeat). s.thread) c.resolve_left-ended.ensures.seat) in
    let lists = c.end-last.ensures.lists ∙ ap (λ (d : DeskView). d.ledgers) (sym c.resolve_left-ended.ensures.after) in
    only_of_one c.settle_all-settled.result c.end-last.result _ t c.settle_all-settled.ensures.settled threads own lists
    (λ m. ap (λ (d : DeskView). (ledger d.ledgers m).sent) c.resolve_left-ended.ensures.before
    ∙ nothing_sent (reopening c.args.settled c.args.again.now) (c.open_again-desk.result.desk ∷ [])
    c.open_again-desk.result.workers c.open_again-desk.ensures.opened 0 c.open_again-desk.result.desk refl m)
