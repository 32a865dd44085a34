use Rattle.xa_base.proofs.{◌≡◌, ◌-◌, List, [], ◌∷◌, ◌++◌, set, ◌∙◌, ap, arith}
use Rattle.xa_words.specs.{Request}
use Rattle.xa_lane.specs.{Sending, with_item, with_full}
use Rattle.xa_desk.specs.{desk_of, after_sent, next_operation, logged, Sent, next_request}
use Rattle.xa_lane.proofs.Parcels.{at_place-set}
use Rattle.xa_desk.proofs.Ties.{lane_within}
use Rattle.xa_desk.proofs.book.Book.offer.Goals as goal

pub returns-in-Err-clause-full : goal.returns-in-Err-clause-full
returns-in-Err-clause-full g c =
    let within = rw (← c.self.view_is) at (lane_within c.requires.known c.requires.lanes) in
    rw (← c.self.view_is) (ap (λ (rs : List (Sending Request)). record (desk_of c.self.inside) { requests = rs })
    (ap (set c.self.inside.requests.items (c.args.manager - 1)) c.in-Err.ensures.full.1
    ∙ at_place-set with_full (c.args.manager - 1) c.self.inside.requests.items c.index_mut.result.now within
    c.index_mut.ensures.value))

pub returns-in-Ok-clause-sent : goal.returns-in-Ok-clause-sent
returns-in-Ok-clause-sent g c =
    let number = rw (← c.self.view_is) at c.next_number.ensures in
    let within = rw (← c.self.view_is) at (lane_within c.requires.known c.requires.lanes) in
    let requests = c.self.inside.requests.items in
    let old = c.index_mut.result.now in
    let request = next_request (desk_of c.self.inside) c.args.manager c.args.op.now in
    let one : c.offer.new.self ≡ with_item request old = search (arith, c.self.inside.thread) in
    rw (← c.self.view_is) (c.note_sent.ensures.sent
    ∙ ap (λ (rs : List (Sending Request)). record (desk_of c.self.inside) {
      ledgers = after_sent c.self.inside.ledgers.items c.args.manager c.args.op.now;
      events = logged c.self.inside.events.items ++ Sent (next_operation c.self.inside.ledgers.items c.args.manager)
          ∷ [];
      requests = rs;
    })
    (ap (set requests (c.args.manager - 1)) one
    ∙ at_place-set (with_item request) (c.args.manager - 1) requests old within c.index_mut.ensures.value))
