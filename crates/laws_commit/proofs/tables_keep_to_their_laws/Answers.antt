use Rattle.xa_base.proofs.{arith, rules}
use Rattle.laws_commit.proofs.tables_keep_to_their_laws.Goals as goal

pub returns : goal.returns
returns c = search (arith, rules)
