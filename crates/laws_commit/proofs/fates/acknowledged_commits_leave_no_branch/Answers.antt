use Rattle.laws_commit.proofs.Settled.{fates_law}
use Rattle.laws_commit.proofs.NextOpening.{none_left}
use Rattle.laws_commit.proofs.fates.acknowledged_commits_leave_no_branch.Goals as goal

pub returns : goal.returns
returns c s k done f own =
    none_left c.tables_keep_to_their_laws.ensures c.settled_journals_follow_the_tables.ensures.first s f.settled
    k.thread _ k.branches done
    (fates_law c.tables_keep_to_their_laws.ensures c.settled_journals_follow_the_tables.ensures.some s k done f own)
