use Rattle.xa_base.proofs.{arith}
use Rattle.laws_commit.proofs.Presumed.{counted_law, whole_law}
use Rattle.laws_commit.proofs.resolved.resolved_transactions_count_where_committed.Goals as goal

pub returns : goal.returns
returns c = search (arith, counted_law, whole_law, c.tables_keep_to_their_laws.ensures)
