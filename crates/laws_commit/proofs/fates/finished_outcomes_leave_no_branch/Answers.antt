use Rattle.laws_commit.proofs.NextOpening.{finished_outcomes}
use Rattle.laws_commit.proofs.fates.finished_outcomes_leave_no_branch.Goals as goal

pub returns : goal.returns
returns c = finished_outcomes c.tables_keep_to_their_laws.ensures c.settled_journals_follow_the_tables.ensures.first
