use Rattle.laws_shown.proofs.Outcomes.{all_one_outcome}
use Rattle.laws_shown.proofs.one_outcome_is_shown.Goals as goal

pub returns : goal.returns
returns c = all_one_outcome
