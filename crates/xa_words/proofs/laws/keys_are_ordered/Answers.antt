use Rattle.xa_words.specs.{key_cmp_total, key_cmp-IsAntisymmetric}
use Rattle.xa_words.proofs.laws.keys_are_ordered.Goals as goal

pub returns-clause-total : goal.returns-clause-total
returns-clause-total c = key_cmp_total

pub returns-clause-ties_none : goal.returns-clause-ties_none
returns-clause-ties_none c = key_cmp-IsAntisymmetric
