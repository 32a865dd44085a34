use Rattle.xa_words.specs.{xid_cmp_total, xid_cmp-IsAntisymmetric}
use Rattle.xa_words.proofs.laws.xids_are_ordered.Goals as goal

pub returns-clause-total : goal.returns-clause-total
returns-clause-total c = xid_cmp_total

pub returns-clause-ties_none : goal.returns-clause-ties_none
returns-clause-ties_none c = xid_cmp-IsAntisymmetric
