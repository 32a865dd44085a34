use Rattle.xa_words.specs.{OpenRm}
use Rattle.xa_work.proofs.Sent.{call_by}
use Rattle.xa_work.proofs.opening.open_one.Goals as goal

pub returns-clause-calls : goal.returns-clause-calls
returns-clause-calls g c = call_by c.args.manager OpenRm c.xa_call.result _ _ c.xa_call.ensures.calls
