use Rattle.laws_commit.proofs.Presumed.{presumed_counts}
use Rattle.laws_commit.proofs.resolved.presumed_transactions_count_by_the_log.Goals as goal

pub returns : goal.returns
returns c = presumed_counts c.tables_keep_to_their_laws.ensures c.settled_journals_follow_the_tables.ensures.first
