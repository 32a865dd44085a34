use Rattle.xa_switch.proofs.SettledOpenings.{follows, follows_first}
use Rattle.xa_switch.proofs.laws.settled_journals_follow_the_tables.Goals as goal

pub returns-clause-some : goal.returns-clause-some
returns-clause-some c = λ s m h. follows s m h

pub returns-clause-first : goal.returns-clause-first
returns-clause-first c = λ s m T h is. follows_first s m T h is
