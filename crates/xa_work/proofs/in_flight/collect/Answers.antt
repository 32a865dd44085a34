use Rattle.xa_base.proofs.{arith, sym, ap, ◌∙◌, ◌≡◌, pos, w32, of_z, to_z-of_z, ints, to_z}
use Rattle.xa_work.proofs.Sent.{completed, by_code}
use Rattle.xa_work.proofs.in_flight.collect.Goals as goal

pub returns-then-answer-eq0-clause-collects : goal.returns-then-answer-eq0-clause-collects
returns-then-answer-eq0-clause-collects g c =
    let flight = c.args.flight.now in
    let given : to_z w32 (of_z w32 flight.handle) ≡ flight.handle = to_z-of_z w32 flight.handle (omega (arith, ints)) in
    let ok : c.xa_complete-answer.result ≡ pos 0 =
    sym (to_z-of_z w32 c.xa_complete-answer.result (omega (arith, ints))) ∙ ap (to_z w32) c.if-answer-eq0.true in
    let (k, code, is, positive, told, got) =
    (completed _ _ flight.manager _ _ _ _ c.xa_complete-answer.result c.xa_complete-answer.ensures.completes).yes
    ok in
    by_code flight.manager flight.handle c.xa_complete-answer.new.retval k code _ _ (sym given ∙ is) positive told got
