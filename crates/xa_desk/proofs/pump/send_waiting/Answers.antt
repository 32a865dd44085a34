use Rattle.xa_base.proofs.{arith, suc, ◌+◌, List, ap, ◌∙◌, refl}
use Rattle.xa_desk.specs.{LedgerView, DeskView, next_operation, outstanding, after_full}
use Rattle.xa_desk.proofs.Ties.{fulls_alike}
use Rattle.xa_desk.proofs.pump.send_waiting.Goals as goal

pub loop-init : goal.loop-init
loop-init g c = record { fulls = (0, refl, refl); idled = g.met.I.Idle.leads_start _ }

pub offer-requires : goal.offer-requires
offer-requires g c =
    let a = fulls_alike c.loop.invariant.fulls.0 c.args.book.now c.loop.book c.args.manager c.loop.invariant.fulls.1 in
    search (arith, a.ledgers)

pub returns-in-Some-offer-clause-named : goal.returns-in-Some-offer-clause-named
returns-in-Some-offer-clause-named g c =
    let a = fulls_alike c.loop.invariant.fulls.0 c.args.book.now c.loop.book c.args.manager c.loop.invariant.fulls.1 in
    c.in-Some-offer.ensures.named ∙ ap (λ (at : List LedgerView). next_operation at c.args.manager) a.ledgers

pub returns-in-Some-offer-clause-sent : goal.returns-in-Some-offer-clause-sent
returns-in-Some-offer-clause-sent g c = grind arith

pub returns-in-Some-offer-clause-more : goal.returns-in-Some-offer-clause-more
returns-in-Some-offer-clause-more g c =
    let a = fulls_alike c.loop.invariant.fulls.0 c.args.book.now c.loop.book c.args.manager c.loop.invariant.fulls.1 in
    c.in-Some-offer.ensures.more ∙ ap (λ (at : List LedgerView). outstanding at + 1) a.ledgers

pub loop-preserved : goal.loop-preserved
loop-preserved g c = record {
  fulls = (
    suc c.loop.invariant.fulls.0,
    c.in_default.ensures.full
        ∙ ap (λ (d : DeskView). after_full d c.args.manager) c.loop.invariant.fulls.1,
    (_, c.loop.invariant.fulls.2, c.idle.ensures),
  );
  idled = g.met.I.Idle.leads_chain _ _ _ c.loop.invariant.idled (g.met.I.Idle.leads_each _ _ _ c.idle.ensures);
}
