use Rattle.laws_shown.proofs.Outcomes.{all_prepared}
use Rattle.laws_shown.proofs.what_commits_was_prepared.Goals as goal

pub returns : goal.returns
returns c = all_prepared
