use Rattle.laws_commit.proofs.OneOutcome.{committed_law, aborted_law}
use Rattle.laws_commit.proofs.commits.one_outcome.Goals as goal

pub returns : goal.returns
returns c = record { committed = committed_law; aborted = aborted_law }
