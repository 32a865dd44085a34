use Rattle.laws_commit.proofs.Settled.{growth_law}
use Rattle.laws_commit.proofs.commits.commits_grow_the_lists.Goals as goal

pub returns : goal.returns
returns c = growth_law
