use Rattle.xa_base.proofs.{ap, ◌∙◌, refl, Err}
use Rattle.xa_calls.specs.Completing.CompletesAny.{retry, least}
use Rattle.xa_calls.proofs.completing.complete_any.Goals as goal

pub returns-in-Ok-clause-completes : goal.returns-in-Ok-clause-completes
returns-in-Ok-clause-completes g c = least c.in-Ok.collected.0 c.in-Ok.collected.1 refl c.in-Ok.ensures.collected

pub returns-in-Err-Retry-clause-completes : goal.returns-in-Err-Retry-clause-completes
returns-in-Err-Retry-clause-completes g c =
    let is = c.in-Err-Retry.is ∙ ap (λ why. Err why) c.in-Err-Retry.field-0-is in
    let some = c.try_complete_any.ensures.retry_some is in
    retry some.0 some.1 c.if-nowait.true refl (c.try_complete_any.ensures.retry_quiet is)
    (c.try_complete_any.ensures.retry_none is)

pub returns-in-Ok-complete_any-clause-completes : goal.returns-in-Ok-complete_any-clause-completes
returns-in-Ok-complete_any-clause-completes g c =
    least c.in-Ok-complete_any.collected.0 c.in-Ok-complete_any.collected.1 refl c.in-Ok-complete_any.ensures.collected
