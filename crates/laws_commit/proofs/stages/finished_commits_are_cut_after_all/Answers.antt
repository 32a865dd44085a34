use Rattle.laws_commit.proofs.CutVotes.{finished_law}
use Rattle.laws_commit.proofs.stages.finished_commits_are_cut_after_all.Goals as goal

pub returns : goal.returns
returns c = finished_law
