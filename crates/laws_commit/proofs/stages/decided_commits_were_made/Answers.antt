use Rattle.laws_commit.proofs.Staged.{decided_made}
use Rattle.laws_commit.proofs.stages.decided_commits_were_made.Goals as goal

pub returns : goal.returns
returns c = decided_made
