use Rattle.xa_base.proofs.{arith}
use Rattle.laws_commit.proofs.Presumed.{resolved_law}
use Rattle.laws_commit.proofs.resolved.resolved_transactions_have_one_outcome.Goals as goal

pub returns : goal.returns
returns c = search (arith, resolved_law, c.tables_keep_to_their_laws.ensures)
