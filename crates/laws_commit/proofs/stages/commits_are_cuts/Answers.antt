use Rattle.laws_commit.proofs.Staged.{commit_is_cut}
use Rattle.laws_commit.proofs.stages.commits_are_cuts.Goals as goal

pub returns : goal.returns
returns c = commit_is_cut
