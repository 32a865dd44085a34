use Rattle.xa_base.proofs.{arith, ◌≡◌, map, sym, subst, length-map, rules}
use Rattle.xa_desk.specs.{EndedView}
use Rattle.xa_worker.specs.{Served}
use Rattle.xa_switch.specs.{journal, ledgers_of, Settling}
use Rattle.xa_switch.proofs.Pieces.{Joint, request_lanes, completion_lanes, AreLanesOf}
use Rattle.xa_switch.proofs.SettledOpenings.{settled, parts_ready, all_there, all_settled_ledgers, all_settled_journals}
use Rattle.xa_switch.proofs.settling.close_all.Goals as goal

pub close_lanes-requires : goal.close_lanes-requires
close_lanes-requires g c =
    let j : Joint c.args.desks.items c.args.workers.items = search rules in
    let lanes : AreLanesOf (map (λ v. v.items) c.take_desks-sent.result.columns.items)
    c.take_workers-answered.result.lanes.items =
    rw (c.take_workers-answered.ensures.taken.lanes, c.take_desks-sent.ensures.taken.columns)
    (request_lanes c.args.desks.items c.args.workers.items j) in
    record { apart = lanes.apart; places = rw length-map at lanes.places; closable = lanes.closable }

pub close_lanes-requires-2 : goal.close_lanes-requires-2
close_lanes-requires-2 g c =
    let j : Joint c.args.desks.items c.args.workers.items = search rules in
    let lanes : AreLanesOf (map (λ v. v.items) c.take_workers-answered.result.columns.items)
    c.take_desks-sent.result.lanes.items =
    rw (c.take_desks-sent.ensures.taken.lanes, c.take_workers-answered.ensures.taken.columns)
    (completion_lanes c.args.desks.items c.args.workers.items j) in
    record { apart = lanes.apart; places = rw length-map at lanes.places; closable = lanes.closable }

pub returns-clause-parts : goal.returns-clause-parts
returns-clause-parts g c = grind (arith, parts_ready)

pub invariant_of-result : goal.invariant_of-result
invariant_of-result g c =
    let ds = c.args.desks.items in
    let ws = c.args.workers.items in
    let j : Joint ds ws = search rules in
    let sent = c.take_desks-sent.ensures.taken in
    let answered = c.take_workers-answered.ensures.taken in
    rw (returns-clause-parts g c) (
      settled ds ws j (rw (answered.lanes, sent.columns) at c.close_lanes.ensures)
          (rw (sent.lanes, answered.columns) at c.close_lanes-2.ensures),
      all_there ds ws j,
    )

pub returns-clause-settled : goal.returns-clause-settled
returns-clause-settled g c = (invariant_of-result g c).0

pub returns-clause-lists : goal.returns-clause-lists
returns-clause-lists g c =
    subst
    (λ (s : Settling). map (λ (e : EndedView). ledgers_of s e.thread) c.args.desks.items ≡ map
    (λ (e : EndedView). e.ledgers) c.args.desks.items)
    (sym (returns-clause-parts g c))
    (all_settled_ledgers c.args.desks.items c.args.workers.items c.requires.from c.requires.one)

pub returns-clause-journals : goal.returns-clause-journals
returns-clause-journals g c =
    subst
    (λ (s : Settling). map (λ (w : Served). journal s w.number) c.args.workers.items ≡ map
    (λ (w : Served). w.journal) c.args.workers.items)
    (sym (returns-clause-parts g c))
    (all_settled_journals c.args.desks.items c.args.workers.items c.requires.from c.requires.one)
