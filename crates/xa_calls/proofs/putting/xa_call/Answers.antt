use Rattle.xa_calls.proofs.Kept.{calls_keep}
use Rattle.xa_calls.proofs.putting.xa_call.Goals as goal

pub returns-clause-kept : goal.returns-clause-kept
returns-clause-kept g c = calls_keep _ _ _ _ _ c.put_asked.ensures.calls
