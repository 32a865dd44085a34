use Rattle.xa_calls.proofs.Effects.{taken_keep, has_redeemed}
use Rattle.xa_calls.proofs.Kept.{none_left}
use Rattle.xa_calls.proofs.laws.outstanding_operations_stay_kept.Goals as goal

pub returns-clause-collected : goal.returns-clause-collected
returns-clause-collected c old new k code is = taken_keep old new is.operation k code (has_redeemed old new k code is)

pub returns-clause-none : goal.returns-clause-none
returns-clause-none c = none_left
