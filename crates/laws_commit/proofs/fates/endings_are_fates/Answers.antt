use Rattle.xa_base.proofs.{arith}
use Rattle.laws_commit.proofs.Settled.{votes_law, fates_law, counts_law, whole_law}
use Rattle.laws_commit.proofs.fates.endings_are_fates.Goals as goal

pub returns : goal.returns
returns c =
    search (
      arith,
      votes_law,
      fates_law,
      counts_law,
      whole_law,
      c.tables_keep_to_their_laws.ensures,
      c.settled_journals_follow_the_tables.ensures.some,
    )
