use Rattle.xa_base.proofs.{◌≡◌, true, arith, sym, refl, eqb-true}
use Rattle.xa_calls.specs.{keeps_for}
use Rattle.xa_calls.specs.Completing.CompletesOne.{unknown, retry, ready, waited}
use Rattle.xa_calls.proofs.Kept.{leaves_all}
use Rattle.xa_calls.proofs.completing.complete_one.Goals as goal

pub returns-in_default-clause-leaves : goal.returns-in_default-clause-leaves
returns-in_default-clause-leaves g c = leaves_all c.desks_go_on.ensures.same g.met.I.Idle.leads_start _ _

pub returns-then-not-keeps-clause-leaves : goal.returns-then-not-keeps-clause-leaves
returns-then-not-keeps-clause-leaves g c = leaves_all c.desks_go_on.ensures.same g.met.I.Idle.leads_start _ _

pub returns-in-Some-try_kept-clause-completes : goal.returns-in-Some-try_kept-clause-completes
returns-in-Some-try_kept-clause-completes g c =
    ready c.in-Some.number c.in-Some-try_kept.code c.in-Some.is (sym c.if-not-keeps.ensures.keeps) c.if-nowait.true refl
    c.in-Some-try_kept.ensures.collected

pub returns-in-Some-try_kept-clause-leaves : goal.returns-in-Some-try_kept-clause-leaves
returns-in-Some-try_kept-clause-leaves g c = search (arith, g.met.I.Idle.leads_start)

pub returns-in-None : goal.returns-in-None
returns-in-None g c = record {
  completes =
      retry c.in-Some.number c.in-Some.is (sym c.if-not-keeps.ensures.keeps) c.if-nowait.true refl
      (c.in-None.ensures.quiet refl)
      (c.in-None.ensures.nothing refl);
  leaves = record {
    goes_on = c.try_kept.ensures.goes_on;
    tickets = c.try_kept.ensures.tickets;
    idled = g.met.I.Idle.leads_start _;
  };
  handle = tt;
  refused = λ _. refl;
  prompt = λ _. refl;
  waited = tt;
}

pub returns-clause-completes : goal.returns-clause-completes
returns-clause-completes g c =
    waited c.in-Some.number c.complete.result c.in-Some.is (sym c.if-not-keeps.ensures.keeps) c.if-nowait.false refl
    (record {
      operation = c.in-Some-redeem.ticket.operation;
      kept = c.in-Some-redeem.ensures.kept;
      collects = rw c.in-Some-redeem.ensures.freed at c.complete.ensures.collected;
    })

pub returns-clause-leaves : goal.returns-clause-leaves
returns-clause-leaves g c =
    search (
      arith,
      c.desks_go_on.ensures.further,
      c.redeem.ensures.goes_on,
      c.complete.ensures.others,
      c.redeem.ensures.tickets,
      c.in-Some-redeem.ensures.fresh,
    )

pub returns-in_default-clause-completes : goal.returns-in_default-clause-completes
returns-in_default-clause-completes g c = unknown (rw c.in_default.is refl) refl refl

pub returns-then-not-keeps-clause-completes : goal.returns-then-not-keeps-clause-completes
returns-then-not-keeps-clause-completes g c = unknown (rw c.in-Some.is (sym c.if-not-keeps.ensures.keeps)) refl refl

pub returns-in-Some-try_kept-clause-handle : goal.returns-in-Some-try_kept-clause-handle
returns-in-Some-try_kept-clause-handle g c = c.if-not-keeps.ensures.handle refl

pub returns-clause-handle : goal.returns-clause-handle
returns-clause-handle g c = c.if-not-keeps.ensures.handle refl

pub returns-clause-waited : goal.returns-clause-waited
returns-clause-waited g c = λ _.
    let redeemed = c.in-Some-redeem in
    let kept : keeps_for c.args.desk.now c.in-Some.number c.args.manager ≡ true = sym c.if-not-keeps.ensures.keeps in
    let mine : redeemed.ticket.operation.manager ≡ c.args.manager = eqb-true _ _ (rw redeemed.ensures.kept at kept) in (
      c.in-Some.is,
      record {
        operation = redeemed.ticket.operation;
        kept = redeemed.ensures.kept;
        manager = mine;
        waits = rw (← mine) (rw redeemed.ensures.freed at c.complete.ensures.waited);
      },
    )
