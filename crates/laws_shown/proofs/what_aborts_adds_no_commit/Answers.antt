use Rattle.laws_shown.proofs.Outcomes.{aborts_commit_none}
use Rattle.laws_shown.proofs.what_aborts_adds_no_commit.Goals as goal

pub returns : goal.returns
returns c = aborts_commit_none
