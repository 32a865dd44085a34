use Rattle.xa_base.proofs.{arith}
use Rattle.xa_work.proofs.Sent.{call_by}
use Rattle.xa_work.proofs.in_turn.ask.Goals as goal

pub returns-clause-calls : goal.returns-clause-calls
returns-clause-calls g c = search (arith, call_by)
