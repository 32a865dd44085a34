use Rattle.laws_shown.proofs.Adds.{sums_of_shares}
use Rattle.laws_shown.proofs.values_are_sums_of_shares.Goals as goal

pub returns : goal.returns
returns c = sums_of_shares c.settled_journals_follow_the_tables.ensures.first
