use Rattle.laws_commit.proofs.NextOpening.{outcomes_law}
use Rattle.laws_commit.proofs.fates.outcomes_are_fates.Goals as goal

pub returns : goal.returns
returns c = outcomes_law c.tables_keep_to_their_laws.ensures c.settled_journals_follow_the_tables.ensures.first
