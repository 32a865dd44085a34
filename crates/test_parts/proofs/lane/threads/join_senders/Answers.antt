use Rattle.xa_base.proofs.{arith}
use Rattle.xa_lane.proofs.Promises.{kept}
use Rattle.test_parts.proofs.lane.threads.join_senders.Goals as goal

pub returns-in-Ok : goal.returns-in-Ok
returns-in-Ok g c =
    let made = c.in-Ok.ensures.len in
    let ok = c.in-Ok.ended.ok in
    let ok' = c.args.handles.ok in
    kept _ (λ e. e.line) (λ p. p.0.value.line) (λ p r k. k.1) _ c.args.handles.items c.in-Ok.ended.items
    (omega (arith, made, ok, ok')) (omega (arith, ok')) c.in-Ok.ensures.each
