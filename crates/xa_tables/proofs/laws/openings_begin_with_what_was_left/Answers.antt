use Rattle.xa_tables.proofs.Reopening.{new_opens, reopens, same_left}
use Rattle.xa_tables.proofs.laws.openings_begin_with_what_was_left.Goals as goal

pub returns-clause-new : goal.returns-clause-new
returns-clause-new c T n = new_opens T n

pub returns-clause-next : goal.returns-clause-next
returns-clause-next c T = reopens T

pub returns-clause-left : goal.returns-clause-left
returns-clause-left c xs T l = same_left xs T l
