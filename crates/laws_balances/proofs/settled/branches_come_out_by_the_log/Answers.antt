use Rattle.laws_balances.proofs.Legs.{comes_out_law}
use Rattle.laws_balances.proofs.settled.branches_come_out_by_the_log.Goals as goal

pub returns : goal.returns
returns c = comes_out_law c.tables_keep_to_their_laws.ensures c.presumed_transactions_have_one_outcome.ensures
