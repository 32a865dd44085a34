use Rattle.laws_shown.proofs.Outcomes.{all_committed}
use Rattle.laws_shown.proofs.what_is_committed_has_its_commit.Goals as goal

pub returns : goal.returns
returns c = all_committed
